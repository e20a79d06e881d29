-- What is kept of reported bounds: for each key the first bound, and the first record with a different one.
use Rattle.std.specs.Prelude.{◌≡◌, ◌<◌, ℕ, nat_le, List, [], ◌∷◌, map, Option, Some, None, IfSome, if◌then◌else◌}
use Rattle.std.specs.List.{AllByRecursion}
use Rattle.rbound.specs.Bounds.{Numbers, numbers_in}
use Rattle.rbound.specs.declared.bound.Bound.{Bound}
use Rattle.rtrace_form.specs.Walks.{or_else}
use Rattle.rtrace_form.specs.Faults.{same_numbers}
use Rattle.rtrace_form.specs.WrongBounds.{first_other}
use Rattle.rbound_history.specs.declared.key.BoundKey.{BoundKey}
use Rattle.rtrace.specs.Told.{Told, said, AreBefore}
use Rattle.rtrace.specs.declared.key.Key.{Key}
use Rattle.rtrace.specs.declared.kept_bounds.Kept.{Kept}

-- what was reported of a wait, and the key by which its bound is found
pub record Keyed : Type 0 where
  pub told : Told
  pub key : BoundKey

-- what was reported, without the keys
abbrev pub told_in : List Keyed → List Told
told_in keyed = map (λ (one : Keyed). one.told) keyed

-- what is kept of a key when a record reports its first bound
abbrev pub first_kept : ℕ → Bound → Kept
first_kept number bound = record { first = number; bound = bound; other = None }

-- and once a later record reports a bound for it again
abbrev pub more_kept : Kept → ℕ → Bound → Kept
more_kept kept number bound = if same_numbers (numbers_in bound) (numbers_in kept.bound) then kept else record kept { other = or_else kept.other (Some number) }

-- the lesser of two numbers, each of which may be missing
abbrev pub lesser : Option ℕ → Option ℕ → Option ℕ
lesser None b = b
lesser (Some m) None = Some m
lesser (Some m) (Some n) = Some (if nat_le m n then m else n)

-- the first record with a wrong bound for a key, by what is kept of it, where this bound is right
abbrev pub wrong_by : Kept → Numbers → Option ℕ
wrong_by kept right = if same_numbers (numbers_in kept.bound) right then kept.other else Some kept.first

-- the first of all keys, where `right` says which bound of each is right
abbrev pub least_wrong : (BoundKey → Numbers) → List (Key × Kept) → Option ℕ
least_wrong right [] = None
least_wrong right (entry ∷ entries) = lesser (wrong_by entry.1 (right entry.0.key)) (least_wrong right entries)

-- the records that are kept of a key have lower numbers than this
abbrev pub IsBelow : ℕ → Kept → Type 0
IsBelow number kept = (kept.first < number) × IfSome kept.other (λ other. other < number)

-- what is kept gives the first wrong bound of all that were reported, whichever bounds are right, as long as each key has one
pub record Tells (entries : List (Key × Kept)) (keyed : List Keyed) : Type 0 where
  pub first : (right : BoundKey → Numbers) → least_wrong right entries ≡ first_other (said (told_in keyed)) (map (λ (one : Keyed). right one.key) keyed)
  pub below : (number : ℕ) → AreBefore number (told_in keyed) → AllByRecursion (λ (entry : Key × Kept). IsBelow number entry.1) entries
