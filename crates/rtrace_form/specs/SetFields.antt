-- The sets of resources that fields name, and how a set is spelled.
use Rattle.std.specs.Prelude.{ℕ, ◌==◌, List, [], ◌∷◌, map, slice_index_or, Option, Some, codes, option_and_then, if◌then◌else◌}
use Rattle.std.specs.List.{slice_split, join_with_byte}
use Rattle.std.specs.Str.{bytes_eq}
use Rattle.std.specs.FinSet.{empty, insert}
use Rattle.rset.specs.Sets.{Set, rising}
use Rattle.rset.specs.Names.{number_in}

-- these resources, and those that the pieces name
unfoldable pub gather : List (List ℕ) → Set → List (List ℕ) → Option Set
gather names s [] = Some s
gather names s (piece ∷ pieces) = option_and_then (λ n. gather names (insert s n) pieces) (number_in names piece)

-- the set that a field names: `-` is the empty set, otherwise its pieces are joined by `+`
unfoldable pub set_told : List (List ℕ) → List ℕ → Option Set
set_told names field =
    if bytes_eq field (codes "-") then Some empty
    else gather names empty (slice_split (λ b. b == 43) field)

-- the name with a number
abbrev pub name_at : List (List ℕ) → ℕ → List ℕ
name_at names n = slice_index_or names n []

-- names joined by `+`; `-` where there is none
abbrev pub joined : List (List ℕ) → List ℕ
joined [] = codes "-"
joined (name ∷ names) = join_with_byte 43 (name ∷ names)

-- the field that names a set: its members by rising number
unfoldable pub set_text : List (List ℕ) → Set → List ℕ
set_text names s = joined (map (name_at names) (rising s))
