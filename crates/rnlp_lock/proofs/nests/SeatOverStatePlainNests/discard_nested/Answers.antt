use Rattle.std.proofs.Common.{inl, refl}
use Rattle.rnlp_lock.specs.Laws.{HoldsOf}
use Rattle.rnlp_lock.proofs.Asks.{rests_nest}
use Rattle.rnlp_lock.proofs.nests.SeatOverStatePlainNests.discard_nested.Goals as goal

pub invariant_of-result : goal.invariant_of-result
invariant_of-result g c =
    rests_nest g.T.Law.allows (HoldsOf g.T.Law.holds) g.T.Editable.after g.T.Editable.taken g.T.Editable.number _ c.discard-pass.result _ c.nest.invariant.1 c.discard-pass.ensures.goes c.discard-pass.ensures.idle (inl refl)
