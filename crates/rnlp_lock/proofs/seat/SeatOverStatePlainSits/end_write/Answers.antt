use Rattle.std.proofs.Common.{inr, sym, subst}
use Rattle.rnlp_lock.specs.Laws.{HoldsOf}
use Rattle.rnlp_lock.specs.Works.{WorkFields}
use Rattle.rnlp_lock.proofs.Keeping.{rests_again}
use Rattle.rnlp_lock.proofs.seat.SeatOverStatePlainSits.end_write.Goals as goal

pub invariant_of-result : goal.invariant_of-result
invariant_of-result g c =
    rests_again g.T.Law.allows (HoldsOf g.T.Law.holds) _ c.in-Ok.pass _ c.work.invariant.1 c.in-Ok.ensures.goes c.in-Ok.ensures.idle
    (inr (subst (λ (w : WorkFields g.row.T.Denot g.row.T-Edit.Denot). g.T.Law.allows w.acts) (sym c.work.view_is) c.requires))
