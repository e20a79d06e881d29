-- The law on what is held: it stays as it was.
use Rattle.std.specs.Prelude.{◌≡◌, ℕ, Bool, true, false, ◌||◌, List, ◌++◌}
use Rattle.std.specs.List.{AllByRecursion}
use Rattle.std.specs.FinSet.{contains}
use Rattle.rmodel.specs.State.{LockState}
use Rattle.rmodel.specs.StateLaws.{gives_back}
use Rattle.rvalue.specs.Entries.{EntryFields}
use Rattle.rvalue.specs.Histories.{value_of}
use Rattle.rstate.specs.Histories.{Beginning, reads_of, writes_of, lock_after, IsLawfulFrom}

-- whether a seat holds the resource, for reading or for writing
abbrev pub is_held_by : LockState → ℕ → ℕ → Bool
is_held_by s seat l = contains (reads_of s seat) l || contains (writes_of s seat) l

-- the seat still holds the resource, in the same way as before
pub record IsHeldStill (before later : LockState) (seat l : ℕ) : Type 0 where
  pub reads : contains (reads_of before seat) l ≡ true → contains (reads_of later seat) l ≡ true
  pub writes : contains (writes_of before seat) l ≡ true → contains (writes_of later seat) l ≡ true

-- What is held stays as it was: a resource that a seat holds after the first entries of a lawful history it still holds in the same way after more of
-- them, with the same value, unless one of those gives back what the seat holds
abbrev pub HeldStaysAsItWas : {V E : Type 0} → (V → E → V) → (V → E → Bool) → (V → ℕ) → Type 0
HeldStaysAsItWas {V} {E} after taken number =
    (b : Beginning V) (begins more : List (EntryFields E)) (seat l : ℕ)
    → IsLawfulFrom after taken number b (begins ++ more)
    → AllByRecursion (λ entry. gives_back seat entry.event ≡ false) more
    → is_held_by (lock_after b begins) seat l ≡ true
    → IsHeldStill (lock_after b begins) (lock_after b (begins ++ more)) seat l
    × ((opening : V) → value_of after opening (begins ++ more) l ≡ value_of after opening begins l)
