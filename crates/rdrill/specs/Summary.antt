-- What is written of a drill.
use Rattle.std.specs.Prelude.{ℕ, not, List, [], ◌∷◌, ◌++◌, codes, decimal}
use Rattle.std.specs.List.{flat_map, count_by, range_with_len}
use Rattle.rmodel.specs.Holds.{is_nothing, holds_of}
use Rattle.rmodel.specs.State.{LockState}
use Rattle.rmodel.specs.Steps.{incomplete_of}
use Rattle.rwatch.specs.Seen.{Seen}
use Rattle.rwatch.specs.declared.kinds.WatchKind.{WatchKind}
use Rattle.rwatch.specs.declared.kinds.WatchKind.TheVariants.{Issues, Finishes, Rises, Asks, Entitled, Satisfied, Grants}
use Rattle.rdrill.specs.Draws.{drill_seats}

-- a word, a comma, a number and the end of the line
unfoldable pub count_line : List ℕ → ℕ → List ℕ
count_line word n = word ++ 44 ∷ (decimal n ++ 10 ∷ [])

-- the name of a kind
abbrev pub kind_word : WatchKind → List ℕ
kind_word Issues = codes "issues"
kind_word Finishes = codes "finishes"
kind_word Rises = codes "rises"
kind_word Asks = codes "asks"
kind_word Entitled = codes "entitled"
kind_word Satisfied = codes "satisfied"
kind_word Grants = codes "grants"

-- the line of a watcher
abbrev pub watcher_line : Seen → List ℕ
watcher_line w = count_line (kind_word w.kind) w.count

-- how many seats hold something
abbrev pub holding_of : LockState → ℕ
holding_of s = count_by (λ seat. not (is_nothing (holds_of s.claims seat))) (range_with_len 0 drill_seats)

-- the last lines
abbrev pub summary_end : LockState → List ℕ
summary_end s = count_line (codes "incomplete") (incomplete_of s) ++ (count_line (codes "holding") (holding_of s) ++ codes "end\n")

-- the number of events, the count of each watcher, and how the lock is left
abbrev pub summary_text : ℕ → List Seen → LockState → List ℕ
summary_text n watchers s = count_line (codes "drill") n ++ (flat_map watcher_line watchers ++ summary_end s)
