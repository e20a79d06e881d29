-- Going through items in order: the first fault, and where it leads if there is none. All texts go through their records this way.
use Rattle.std.specs.Prelude.{◌≡◌, ℕ, ◌+◌, Bool, List, [], ◌∷◌, Option, Some, None, if◌then◌else◌}

-- a code, where the test holds
abbrev pub when : {C : Type 0} → Bool → C → Option C
when holds code = if holds then Some code else None

-- this, if it is there, otherwise the other
abbrev pub or_else : {X : Type 0} → Option X → Option X → Option X
or_else None other = other
or_else (Some x) other = Some x

-- the first of these that is there
abbrev pub first_of : {X : Type 0} → List (Option X) → Option X
first_of [] = None
first_of (x ∷ xs) = or_else x (first_of xs)

-- the fault of a record that has one, with its number, otherwise what comes later
abbrev pub or_later : {C : Type 0} → ℕ → Option C → Option (ℕ × C) → Option (ℕ × C)
or_later line (Some code) later = Some (line, code)
or_later line None later = later

-- `code` says what is wrong with an item after those that led to a state, and `next` where it leads; `is_done` says that no more items need come, and `no_end` is the code if they must
module _ {R S C : Type 0} (code : S → R → Option C) (next : S → R → S) (is_done : S → Bool) (no_end : C) where
  -- the first fault of the items from a state on, which are numbered from `line` on
  unfoldable pub fault_from : ℕ → S → List R → Option (ℕ × C)
  fault_from line s [] = if is_done s then None else Some (line, no_end)
  fault_from line s (x ∷ xs) = or_later line (code s x) (fault_from (line + 1) (next s x) xs)

-- `code` finds nothing wrong with any of the items from a state on
module _ {R S C : Type 0} (code : S → R → Option C) (next : S → R → S) where
  abbrev pub AllClean : S → List R → Type 0
  AllClean s [] = Unit {0}
  AllClean s (x ∷ xs) = (code s x ≡ None) × AllClean (next s x) xs
