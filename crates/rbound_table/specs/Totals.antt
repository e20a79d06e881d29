-- Totals of the rows of a zone for all tasks at once.
use Rattle.std.specs.Prelude.{◌≡◌, ℕ, Bool, not, ◌&&◌, List, Option, is_some}
use Rattle.std.specs.List.{count_by}
use Rattle.rbound.specs.Bounds.{tasks_of}
use Rattle.rbound.specs.ZoneRows.{row_at}
use Rattle.rbound.specs.declared.rows.ZoneRows.{ZoneRows}
use Rattle.rbound_table.specs.Two.{two_of}
use Rattle.rbound_table.specs.Sums.{writers_there}
use Rattle.rbound_table.specs.declared.two.TwoLongest.{TwoLongest}
use Rattle.rbound_table.specs.declared.totals.ZoneTotals.{ZoneTotals}

-- a task reads there and has no write claim
abbrev pub only_reads : ZoneRows → ℕ → Bool
only_reads rows t = is_some (row_at rows.reads.items t) && not (is_some (row_at rows.writes.items t))

-- the number of these tasks
abbrev pub only_readers : ZoneRows → ℕ → ℕ
only_readers rows tasks = count_by (only_reads rows) (tasks_of tasks)

-- the two longest of a row
abbrev pub two_in : List (Option ℕ) → ℕ → TwoLongest
two_in row tasks = two_of tasks (row_at row)

-- the totals of all these tasks, but for the sums
pub record AreTotals (rows : ZoneRows) (tasks : ℕ) (t : ZoneTotals) : Type 0 where
  pub writers : t.writers ≡ writers_there rows.writes.items tasks
  pub only_readers : t.only_readers ≡ only_readers rows tasks
  pub reads : t.reads ≡ two_in rows.reads.items tasks
  pub upgrades : t.upgrades ≡ two_in rows.upgrades.items tasks
