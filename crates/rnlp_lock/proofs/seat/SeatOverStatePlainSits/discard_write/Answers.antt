use Rattle.std.proofs.Common.{inl, refl}
use Rattle.rnlp_lock.specs.Laws.{HoldsOf}
use Rattle.rnlp_lock.proofs.Keeping.{rests_again}
use Rattle.rnlp_lock.proofs.seat.SeatOverStatePlainSits.discard_write.Goals as goal

pub invariant_of-result : goal.invariant_of-result
invariant_of-result g c = rests_again g.T.Law.allows (HoldsOf g.T.Law.holds) _ c.discard-pass.result _ c.work.invariant.1 c.discard-pass.ensures.goes c.discard-pass.ensures.idle (inl refl)
