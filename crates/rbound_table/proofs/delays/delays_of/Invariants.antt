use Rattle.std.proofs.Common.{◌≡◌, map}
use Rattle.std.specs.List.{range_with_len}
use Rattle.rbound_table.specs.Lengths.{rows_in}
use Rattle.rbound_table.specs.Delays.{delayers_in, delay_at}
use Rattle.rbound_table.proofs.delays.delays_of.Given as goal

abbrev pub invariant-loop-l : goal.invariant-loop-l
invariant-loop-l l = rows_in l.rows.items ≡ map (λ r. map (delay_at (delayers_in l.tables l.tasks) l.tasks r) (range_with_len 0 l.tasks)) (range_with_len 0 l.l)
