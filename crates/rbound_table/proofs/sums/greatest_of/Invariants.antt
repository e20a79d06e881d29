use Rattle.std.proofs.Common.{◌≡◌, ◌≤◌, ◌+◌, ◌-◌, length, map}
use Rattle.std.specs.List.{range_with_len}
use Rattle.rbound.specs.Rows.{IsRow, IsSmallRow}
use Rattle.rbound_table.specs.Sums.{length_in}
use Rattle.rbound_table.proofs.sums.greatest_of.Given as goal

abbrev pub invariant-loop-left : goal.invariant-loop-left
invariant-loop-left l =
    (l.left ≤ l.tasks) × (length l.sums ≡ l.count + 1)
    × IsRow l.sums (map (length_in l.row) (range_with_len l.left (l.tasks - l.left))) × IsSmallRow l.sums

abbrev pub decreases-loop-left : goal.decreases-loop-left
decreases-loop-left l = l.left
