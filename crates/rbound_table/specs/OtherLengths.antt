-- The lengths of other tasks' claims that bound the waits of reads and asks.
use Rattle.std.specs.Prelude.{◌≡◌, ℕ}
use Rattle.rbound_table.specs.Lengths.{rows_in, others_in}
use Rattle.rbound_table.specs.Delays.{delays_in}
use Rattle.rbound_table.specs.declared.tables.Tables.{Tables}
use Rattle.rbound_table.specs.declared.other_lengths.OtherLengths.{OtherLengths}

-- the lengths are those from these tables
pub record AreOtherLengths (tables : Tables) (tasks : ℕ) (lengths : OtherLengths) : Type 0 where
  pub keeps : rows_in lengths.keeps.items ≡ others_in tables.writes.items tasks
  pub bars : rows_in lengths.bars.items ≡ others_in tables.reads.items tasks
  pub delays : rows_in lengths.delays.items ≡ delays_in tables tasks
