-- The greatest sums of the write lengths of all tasks but any one.
use Rattle.std.specs.Prelude.{◌≡◌, ◌≤◌, ◌<◌, ◌-◌, ◌*◌, ◌^◌, ℕ, min, List, map, Option, is_some, unwrap_or}
use Rattle.std.specs.List.{count_by}
use Rattle.rbound.specs.Bounds.{largest, tasks_of}
use Rattle.rbound.specs.ZoneRows.{row_at, write_length_in}
use Rattle.rbound_table.specs.declared.sums.GreatestSums.{GreatestSums}

-- the number of tasks that have a length in a row
abbrev pub writers_there : List (Option ℕ) → ℕ → ℕ
writers_there writes tasks = count_by (λ t. is_some (row_at writes t)) (tasks_of tasks)

-- the length that a row has for a task, 0 where it has none
abbrev pub length_in : List (Option ℕ) → ℕ → ℕ
length_in row t = unwrap_or (row_at row t) 0

-- the greatest sums of the lengths in a row; they are sums of lengths that fit 32 bits
pub record AreGreatest (row : List (Option ℕ)) (tasks cap : ℕ) (s : GreatestSums) : Type 0 where
  pub fewer : s.fewer ≡ largest (cap - 1) (map (length_in row) (tasks_of tasks))
  pub most : s.most ≡ largest cap (map (length_in row) (tasks_of tasks))
  pub small : s.most ≤ 255 * 2 ^ 32

-- the sums give the greatest sum of the lengths of all tasks but any one, of at most one fewer than the cap
pub record AreSums (row : List (Option ℕ)) (tasks cap : ℕ) (s : GreatestSums) : Type 0 where
  pub own : (me : ℕ) → me < tasks → length_in row me ≤ s.most
  pub beside : (me : ℕ) → me < tasks → min s.fewer (s.most - length_in row me) ≡ largest (cap - 1) (map (write_length_in row me) (tasks_of tasks))
  pub small : s.most ≤ 255 * 2 ^ 32
