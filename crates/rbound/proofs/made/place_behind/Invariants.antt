use Rattle.std.proofs.Common.{◌≤◌, length}
use Rattle.rbound.proofs.PlaceBehind.{AreAfter}
use Rattle.rbound.proofs.made.place_behind.Given as goal

abbrev pub invariant-loop-at : goal.invariant-loop-at
invariant-loop-at l = (l.at ≤ length l.claims) × AreAfter l.claims l.task l.at

abbrev pub decreases-loop-at : goal.decreases-loop-at
decreases-loop-at l = l.at
