use Rattle.std.proofs.Common.{◌≡◌, ◌≤◌, take, map, length, vec_capacity}
use Rattle.rrun.proofs.run.stopped_of.Given as goal

abbrev pub invariant-loop-ended : goal.invariant-loop-ended
invariant-loop-ended g l = (l.stopped.items ≡ map (λ ended. ended.stopped) (take l.ended-index l.all)) × (length l.all ≤ vec_capacity l.stopped)
