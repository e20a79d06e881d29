-- The two longest of all tasks but one, for any one of them.
use Rattle.std.specs.Prelude.{◌==◌, ℕ, List, Option, if◌then◌else◌}
use Rattle.rbound_table.specs.Tables.{cell_at}
use Rattle.rbound_table.specs.Two.{two_at, two_of, two_beside}
use Rattle.rbound_table.specs.declared.table.Cell.{Cell}
use Rattle.rbound_table.specs.declared.two.TwoLongest.{TwoLongest}
use Rattle.rbound_table.specs.declared.leaders.Leaders.{Leaders}

-- the two longest that a table has at a resource, leaving one task out
abbrev pub beside_at : List Cell → ℕ → ℕ → ℕ → TwoLongest
beside_at cells tasks but m = two_beside tasks but (λ t. (cell_at cells t m).longest)

-- the two longest of these lengths, and the two longest of all tasks but the one that has the longest
abbrev pub leaders_of : ℕ → (ℕ → Option ℕ) → Leaders
leaders_of tasks f = record { all = two_of tasks f; others = two_beside tasks (two_of tasks f).task f }

-- the same for what a table has at a resource
abbrev pub leaders_at : List Cell → ℕ → ℕ → Leaders
leaders_at cells tasks m = leaders_of tasks (λ t. (cell_at cells t m).longest)

-- the two longest of all tasks but one: without the longest where it is that task's, otherwise the longest and the longest of the others but that task
abbrev pub led_beside : Leaders → ℕ → TwoLongest
led_beside l but = if l.all.task == but then l.others else record { task = l.all.task; longest = l.all.longest; next = two_at l.others but }
