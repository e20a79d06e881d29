use Rattle.std.proofs.Common.{◌≡◌, map}
use Rattle.std.specs.List.{range_with_len}
use Rattle.rset.specs.declared.TheConstants.{RESOURCES}
use Rattle.rbound_table.specs.Lengths.{rows_in}
use Rattle.rbound_table.specs.Delays.{delayed}
use Rattle.rbound_table.proofs.delays.delayers_of.Given as goal

abbrev pub invariant-loop-writer : goal.invariant-loop-writer
invariant-loop-writer l = rows_in l.rows.items ≡ map (λ w. map (delayed l.tables l.tasks w) (range_with_len 0 RESOURCES)) (range_with_len 0 l.writer)
