-- For each resource and task a length: rows, one for each resource.
use Rattle.std.specs.Prelude.{ℕ, List, [], map, fold, slice_index_or, Option, None}
use Rattle.std.specs.List.{range_with_len}
use Rattle.std.specs.declared.vec.Vec.{Vec}
use Rattle.std.specs.declared.alloc.Global.{Global}
use Rattle.rset.specs.Sets.{Set, rising}
use Rattle.rset.specs.declared.TheConstants.{RESOURCES}
use Rattle.rbound.specs.Longest.{longer}
use Rattle.rbound.specs.ZoneRows.{beside, row_at}
use Rattle.rbound_table.specs.Tables.{cell_at}
use Rattle.rbound_table.specs.Two.{two_of}
use Rattle.rbound_table.specs.declared.table.Cell.{Cell}
use Rattle.rbound_table.specs.declared.two.TwoLongest.{TwoLongest}

-- rows as they are kept
abbrev pub rows_in : {X : Type 0} → List (Vec X Global) → List (List X)
rows_in rows = map (λ v. v.items) rows

-- the longest that a table has at a resource, leaving one task out
abbrev pub others_at : List Cell → ℕ → ℕ → ℕ → Option ℕ
others_at cells tasks l me = beside tasks me (λ t. (cell_at cells t l).longest)

-- the two longest that it has at a resource
abbrev pub two_longest_at : List Cell → ℕ → ℕ → TwoLongest
two_longest_at cells tasks l = two_of tasks (λ t. (cell_at cells t l).longest)

-- at each resource, for each task
abbrev pub others_in : List Cell → ℕ → List (List (Option ℕ))
others_in cells tasks = map (λ l. map (others_at cells tasks l) (range_with_len 0 tasks)) (range_with_len 0 RESOURCES)

-- the length at a resource for a task
abbrev pub length_at : List (List (Option ℕ)) → ℕ → ℕ → Option ℕ
length_at rows l me = row_at (slice_index_or rows l []) me

-- the longest over some resources
abbrev pub longest_over : List (List (Option ℕ)) → ℕ → Set → Option ℕ
longest_over rows me s = fold (λ most l. longer most (length_at rows l me)) None (rising s)
