use Rattle.std.proofs.Common.{◌≡◌, ◌≤◌, ◌+◌, ◌-◌, length, map}
use Rattle.std.specs.List.{range_with_len}
use Rattle.rbound.specs.ZoneRows.{write_length_in}
use Rattle.rbound.specs.Rows.{IsRow, IsSmallRow}
use Rattle.rbound.proofs.row.largest_writes.Given as goal

abbrev pub invariant-loop-left : goal.invariant-loop-left
invariant-loop-left l =
    (l.left ≤ l.tasks) × (length l.row ≡ l.count + 1)
    × IsRow l.row (map (write_length_in l.writes l.task) (range_with_len l.left (l.tasks - l.left))) × IsSmallRow l.row

abbrev pub decreases-loop-left : goal.decreases-loop-left
decreases-loop-left l = l.left
