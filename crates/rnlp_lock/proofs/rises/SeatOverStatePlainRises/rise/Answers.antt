use Rattle.std.proofs.Common.{◌∙◌, sym, subst}
use Rattle.rnlp_lock.specs.Laws.{HoldsOf}
use Rattle.rnlp_lock.specs.Upgrades.{Rose, upgrade_of}
use Rattle.rnlp_lock.specs.Works.{WorkFields, Began}
use Rattle.rnlp_lock.proofs.Risen.{risen, rose, rises_bare}
use Rattle.rnlp_lock.proofs.rises.SeatOverStatePlainRises.rise.Goals as goal

pub invariant_of-result : goal.invariant_of-result
invariant_of-result g c =
    let began = subst (Began (upgrade_of c.requires.0) c.requires.1) (sym c.work.view_is) c.requires.2 in (
      c.rise-guard.ensures.site ∙ c.work.invariant.0,
      risen g.T.Law.allows (HoldsOf g.T.Law.holds) g.T.Editable.after g.T.Editable.taken g.T.Editable.number c.requires.0 c.requires.1 _ c.rise-guard.result.seat began
          (rises_bare c.requires.0 c.requires.1 _ c.rise-guard.result.seat began c.rise-guard.ensures.goes) c.seat.ensures.lawful c.seat.ensures.own c.rise-guard.ensures.ready c.work.invariant.1 c.rise-guard.result.acts,
    )

pub returns : goal.returns
returns g c =
    let began = subst (Began (upgrade_of c.requires.0) c.requires.1) (sym c.work.view_is) c.requires.2 in
    let later : WorkFields g.row.T.Denot g.row.T-Edit.Denot =
    record { place = record { lock = c.work.inside.lock.now; reads = c.work.inside.writes; writes = c.work.inside.reads; pass = c.rise-guard.result.seat }; acts = c.rise-guard.result.acts } in
    subst (λ (w : WorkFields g.row.T.Denot g.row.T-Edit.Denot). Rose w later) c.work.view_is
    (rose c.requires.0 c.requires.1 _ c.rise-guard.result.seat c.rise-guard.result.acts began (rises_bare c.requires.0 c.requires.1 _ c.rise-guard.result.seat began c.rise-guard.ensures.goes) c.rise-guard.ensures.acts)
