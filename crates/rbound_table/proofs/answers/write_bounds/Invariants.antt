use Rattle.std.proofs.Common.{◌≡◌, map}
use Rattle.std.specs.List.{range_with_len}
use Rattle.rbound.specs.Bounds.{numbers_in}
use Rattle.rbound.specs.ZoneRows.{numbers_of}
use Rattle.rbound_table.proofs.answers.write_bounds.Given as goal

abbrev pub invariant-loop-task : goal.invariant-loop-task
invariant-loop-task l = map numbers_in l.bounds.items ≡ map (numbers_of l.rows l.tasks l.cap) (range_with_len 0 l.task)
