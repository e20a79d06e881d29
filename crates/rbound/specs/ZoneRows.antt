-- The numbers that bound the wait of a write claim, from the longest claims of each task in a zone.
use Rattle.std.specs.Prelude.{◌≡◌, ℕ, ◌+◌, ◌-◌, ◌*◌, ◌==◌, Bool, not, ◌&&◌, ◌||◌, min, List, map, fold, slice_index_or, Option, None, is_some, unwrap_or, if◌then◌else◌}
use Rattle.std.specs.List.{list_all, count_by, range_with_len}
use Rattle.rset.specs.Sets.{Set}
use Rattle.rmodel.specs.Claims.{is_upgrade}
use Rattle.rbound.specs.Needs.{Needed}
use Rattle.rbound.specs.Zones.{is_there}
use Rattle.rbound.specs.Bounds.{Numbers, largest, tasks_of}
use Rattle.rbound.specs.Longest.{longer, longest}
use Rattle.rbound.specs.declared.rows.ZoneRows.{ZoneRows}
use Rattle.rbound.specs.declared.rows.Sort.{Sort}
use Rattle.rbound.specs.declared.rows.Sort.TheVariants.{Writes, Reads, Upgrades}

-- ---- the rows

-- a claim is of this sort
abbrev pub is_sort : Sort → Needed → Bool
is_sort Writes n = n.claim.write_half
is_sort Reads n = not n.claim.write_half
is_sort Upgrades n = is_upgrade n.claim.kind

-- it is a claim of the task, of this sort, in the zone
abbrev pub is_there_of : Sort → Set → ℕ → Needed → Bool
is_there_of sort zone task n = (n.claim.seat == task) && (is_sort sort n && is_there zone n)

-- the rows of a zone: for each task, the longest of its claims there
pub record AreRows (ns : List Needed) (tasks : ℕ) (zone : Set) (rows : ZoneRows) : Type 0 where
  pub writes : rows.writes.items ≡ map (λ t. longest (is_there_of Writes zone t) ns) (range_with_len 0 tasks)
  pub reads : rows.reads.items ≡ map (λ t. longest (is_there_of Reads zone t) ns) (range_with_len 0 tasks)
  pub upgrades : rows.upgrades.items ≡ map (λ t. longest (is_there_of Upgrades zone t) ns) (range_with_len 0 tasks)

-- the length that a row has for a task
abbrev pub row_at : List (Option ℕ) → ℕ → Option ℕ
row_at row t = slice_index_or row t None

-- the longest of all tasks but one
abbrev pub beside : ℕ → ℕ → (ℕ → Option ℕ) → Option ℕ
beside tasks me f = fold (λ most t. if t == me then most else longer most (f t)) None (range_with_len 0 tasks)

-- ---- the numbers

-- the longest of all tasks of a row but one
abbrev pub other_at : List (Option ℕ) → ℕ → ℕ → Option ℕ
other_at row task other = if other == task then None else row_at row other

-- the number of other tasks with a write claim there
abbrev pub writers_in : List (Option ℕ) → ℕ → ℕ → ℕ
writers_in writes tasks task = count_by (λ other. is_some (other_at writes task other)) (tasks_of tasks)

-- the writes: one for each of them, but no more than may be incomplete beside the request itself
abbrev pub writes_in : List (Option ℕ) → ℕ → ℕ → ℕ → ℕ
writes_in writes tasks cap task = min (writers_in writes tasks task) (cap - 1)

-- each task that may read there may also write there
abbrev pub all_may_write_in : ZoneRows → ℕ → ℕ → Bool
all_may_write_in rows tasks task = list_all (λ t. ((t == task) || not (is_some (row_at rows.reads.items t))) || is_some (row_at rows.writes.items t)) (tasks_of tasks)

-- no other reader can be incomplete beside all writers that count, and no writer is an upgrade
abbrev pub none_beside_in : ZoneRows → ℕ → ℕ → ℕ → Bool
none_beside_in rows tasks cap task =
    not (is_some (beside tasks task (row_at rows.upgrades.items))) && ((writes_in rows.writes.items tasks cap task == (cap - 1)) || all_may_write_in rows tasks task)

-- the reads
abbrev pub reads_in : ZoneRows → ℕ → ℕ → ℕ → ℕ
reads_in rows tasks cap task =
    if is_some (beside tasks task (row_at rows.reads.items)) then (if none_beside_in rows tasks cap task then writes_in rows.writes.items tasks cap task else writes_in rows.writes.items tasks cap task + 1) else 0

-- the write length of a task, unless it is this task
abbrev pub write_length_in : List (Option ℕ) → ℕ → ℕ → ℕ
write_length_in writes task other = unwrap_or (other_at writes task other) 0

-- the numbers of a task's write wait
abbrev pub numbers_of : ZoneRows → ℕ → ℕ → ℕ → Numbers
numbers_of rows tasks cap task = record {
  reads = reads_in rows tasks cap task;
  writes = writes_in rows.writes.items tasks cap task;
  units = largest (writes_in rows.writes.items tasks cap task) (map (write_length_in rows.writes.items task) (tasks_of tasks)) + reads_in rows tasks cap task * unwrap_or (beside tasks task (row_at rows.reads.items)) 0;
}
