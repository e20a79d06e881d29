-- For each resource and task, the longest claim of another task that can hold up a write of the resource by a third task.
use Rattle.std.specs.Prelude.{◌==◌, ℕ, List, [], map, fold, find, slice_index_or, Option, None}
use Rattle.std.specs.List.{range_with_len}
use Rattle.std.specs.Option.{option_eq}
use Rattle.rset.specs.Sets.{rising}
use Rattle.rset.specs.declared.TheConstants.{RESOURCES}
use Rattle.rbound.specs.Longest.{longer}
use Rattle.rbound.specs.ZoneRows.{beside}
use Rattle.rbound_table.specs.Tables.{cell_at}
use Rattle.rbound_table.specs.Two.{no_length, only, two_at, two_of_both}
use Rattle.rbound_table.specs.Leaders.{leaders_at, led_beside}
use Rattle.rbound_table.specs.declared.table.Cell.{Cell}
use Rattle.rbound_table.specs.declared.tables.Tables.{Tables}
use Rattle.rbound_table.specs.declared.two.TwoLongest.{TwoLongest}
use Rattle.rbound_table.specs.declared.leaders.Leaders.{Leaders}

-- for each resource, the tasks with the longest lengths in a table
abbrev pub all_leaders : List Cell → ℕ → List Leaders
all_leaders cells tasks = map (leaders_at cells tasks) (range_with_len 0 RESOURCES)

-- from these, for each resource the two longest of all tasks but the writer
abbrev pub readers_of : List Leaders → ℕ → List TwoLongest
readers_of leaders writer = map (λ l. led_beside l writer) leaders

-- from these, the two longest claims that can hold up what the writer writes together with a resource: the read halves of its own upgrades, and
-- the claims by which others read something that it writes together with the resource
abbrev pub delayed_by : Tables → List TwoLongest → ℕ → ℕ → TwoLongest
delayed_by tables readers writer l =
    fold (λ two m. two_of_both two (slice_index_or readers m no_length)) (only writer (cell_at tables.halves.items writer l).longest) (rising (cell_at tables.writes.items writer l).beside)

abbrev pub delayed : Tables → ℕ → ℕ → ℕ → TwoLongest
delayed tables tasks writer l = delayed_by tables (readers_of (all_leaders tables.reads.items tasks) writer) writer l

-- for each writer, at each resource
abbrev pub delayers_in : Tables → ℕ → List (List TwoLongest)
delayers_in tables tasks = map (λ writer. map (delayed tables tasks writer) (range_with_len 0 RESOURCES)) (range_with_len 0 tasks)

-- for a writer, at a resource
abbrev pub delayers_at : List (List TwoLongest) → ℕ → ℕ → TwoLongest
delayers_at rows writer l = slice_index_or (slice_index_or rows writer []) l no_length

-- the longest claim of another task that can hold up a write of another task
abbrev pub delay_at : List (List TwoLongest) → ℕ → ℕ → ℕ → Option ℕ
delay_at rows tasks l me = beside tasks me (λ writer. two_at (delayers_at rows writer l) me)

-- the longest of all claims that can hold up a write of the resource
abbrev pub top_at : List (List TwoLongest) → ℕ → ℕ → Option ℕ
top_at rows tasks l = fold (λ most writer. longer most (longer (delayers_at rows writer l).longest (delayers_at rows writer l).next)) None (range_with_len 0 tasks)

-- the first writer whose writes of the resource a claim of this length can hold up, where there is one
abbrev pub writer_delayed : List (List TwoLongest) → ℕ → ℕ → Option ℕ → Option ℕ
writer_delayed rows tasks l top = find (λ writer. option_eq (λ a b. a == b) (delayers_at rows writer l).longest top) (range_with_len 0 tasks)

-- at each resource, for each task
abbrev pub delays_in : Tables → ℕ → List (List (Option ℕ))
delays_in tables tasks = map (λ l. map (delay_at (delayers_in tables tasks) tasks l) (range_with_len 0 tasks)) (range_with_len 0 RESOURCES)
