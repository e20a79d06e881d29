use Rattle.rtrace.proofs.OverKeys.{IsFirstSoFar}
use Rattle.rtrace.proofs.told_bounds.ToldBounds.first_by.Given as goal

abbrev pub invariant-loop-key : goal.invariant-loop-key
invariant-loop-key l = IsFirstSoFar l.bounds l.self.kept.entries l.first l.key-iterator
