use Rattle.std.proofs.Common.{◌≡◌, map}
use Rattle.std.specs.List.{range_with_len}
use Rattle.rbound_table.specs.Lengths.{rows_in, others_at}
use Rattle.rbound_table.proofs.lengths.others_of.Given as goal

abbrev pub invariant-loop-l : goal.invariant-loop-l
invariant-loop-l l = rows_in l.rows.items ≡ map (λ r. map (others_at l.cells l.tasks r) (range_with_len 0 l.tasks)) (range_with_len 0 l.l)
