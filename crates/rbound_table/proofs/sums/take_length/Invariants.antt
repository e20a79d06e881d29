use Rattle.rbound.proofs.RowSteps.{HasGone}
use Rattle.rbound_table.proofs.sums.take_length.Given as goal

abbrev pub invariant-loop-at : goal.invariant-loop-at
invariant-loop-at l = HasGone l.len l.initial.sums l.sums l.at

abbrev pub decreases-loop-at : goal.decreases-loop-at
decreases-loop-at l = l.at
