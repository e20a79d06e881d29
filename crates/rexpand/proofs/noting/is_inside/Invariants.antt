use Rattle.std.proofs.Common.{◌≡◌, ◌<◌, ℕ}
use Rattle.std.specs.FinSet.{empty}
use Rattle.rexpand.proofs.NotedLemmas.{groups_around}
use Rattle.rexpand.proofs.noting.is_inside.Given as goal

abbrev pub invariant-loop-block : goal.invariant-loop-block
invariant-loop-block l = (b : ℕ) → b < l.block → groups_around l.noted b l.set l.l ≡ empty
