use Rattle.std.proofs.Common.{◌≡◌, ◌≤◌, ◌*◌, ◌^◌, map}
use Rattle.std.specs.List.{sum, range_with_len}
use Rattle.rbound_table.specs.Sums.{length_in}
use Rattle.rbound_table.proofs.sums.sum_of.Given as goal

abbrev pub invariant-loop-task : goal.invariant-loop-task
invariant-loop-task l = (l.all ≡ sum (map (length_in l.row) (range_with_len 0 l.task))) × (l.all ≤ l.task * 2 ^ 32)
