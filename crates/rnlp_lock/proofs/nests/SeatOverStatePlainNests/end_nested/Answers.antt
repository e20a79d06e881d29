use Rattle.std.proofs.Common.{inr, sym, subst}
use Rattle.rnlp_lock.specs.Laws.{HoldsOf}
use Rattle.rnlp_lock.specs.Nested.{NestFields}
use Rattle.rnlp_lock.proofs.Asks.{rests_nest}
use Rattle.rnlp_lock.proofs.nests.SeatOverStatePlainNests.end_nested.Goals as goal

pub invariant_of-result : goal.invariant_of-result
invariant_of-result g c =
    rests_nest g.T.Law.allows (HoldsOf g.T.Law.holds) g.T.Editable.after g.T.Editable.taken g.T.Editable.number _ c.in-Ok.pass _ c.nest.invariant.1 c.in-Ok.ensures.goes c.in-Ok.ensures.idle
    (inr (subst (λ (n : NestFields g.row.T.Denot g.row.T-Edit.Denot). g.T.Law.allows n.acts) (sym c.nest.view_is) c.requires))
