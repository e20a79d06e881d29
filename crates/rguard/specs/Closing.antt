-- What is left of a closed lock.
use Rattle.std.specs.Prelude.{◌≡◌, ℕ, Bool, Option, Some, List, length, slice_get}
use mathlib.Core.List.{IsPrefix}
use Rattle.rclaim.specs.Events.{seat_of}
use Rattle.rlock.specs.Known.{entries_by}
use Rattle.rvalue.specs.Entries.{EntryFields}
use Rattle.rvalue.specs.Histories.{value_of}
use Rattle.rwatch.specs.Seen.{Seen}
use Rattle.rstate.specs.Histories.{Beginning, HaveBeenTold, IsLawfulFrom}
use Rattle.rguard.specs.Seats.{SeatOf}

-- The entries are lawful from how the lock began, and each resource has the value that they make of its opening value
pub record IsLeft {V E : Type 0} (after : V → E → V) (taken : V → E → Bool) (number : V → ℕ) (b : Beginning V) (entries : List (EntryFields E)) (values : List V) : Type 0 where
  pub lawful : IsLawfulFrom after taken number b entries
  pub count : length values ≡ b.groups.q
  pub each : (l : ℕ) (opening : V) → slice_get b.values l ≡ Some opening → slice_get values l ≡ Some (value_of after opening entries l)

-- what is left of a lock when it is closed, as this seat knows it: the entries begin with what it has seen, and its own among them are those that it
-- made
pub record IsClosedBy {V E : Type 0} (after : V → E → V) (taken : V → E → Bool) (number : V → ℕ) (entries : List (EntryFields E)) (values : List V) (seat : SeatOf V E) : Type 0 where
  pub left : (b : Beginning V) → seat.opening ≡ Some b → IsLeft after taken number b entries values
  pub begins : IsPrefix seat.seen entries
  pub own : entries_by (λ (entry : EntryFields E). seat_of entry.event) seat.number entries ≡ seat.mine

-- the watchers have been given just the steps of these entries, from how the seat's lock began
abbrev pub IsToldTo : {V E : Type 0} → Option (List Seen) → List (EntryFields E) → SeatOf V E → Type 0
IsToldTo {V} watched entries seat = (b : Beginning V) → seat.opening ≡ Some b → HaveBeenTold b entries watched
