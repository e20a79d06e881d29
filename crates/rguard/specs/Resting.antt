-- Seats between two sections, and what their guards may do: for callers that know the read groups of the lock.
use Rattle.std.specs.Prelude.{◌≡◌, ℕ, true, Some, [], ◌∷◌}
use Rattle.std.specs.FinSet.{contains}
use Rattle.rset.specs.Sets.{Set}
use Rattle.rset.specs.declared.TheConstants.{RESOURCES}
use Rattle.rexpand.specs.Groups.{ReadGroups}
use Rattle.rlock.specs.Known.{Site}
use Rattle.rstate.specs.Histories.{Beginning}
use Rattle.rguard.specs.Seats.{SeatOf, IsOf, IsIdle}
use Rattle.rguard.specs.Guards.{Holding, HoldingToWrite}

-- all resources that there may be, where those of one set are declared to be read together
abbrev pub all_with : Set → ReadGroups
all_with group = record { q = RESOURCES; groups = group ∷ [] }

module _ {V E : Type 0} where
  -- the seat is one of this lock, which began with these read groups
  pub record IsAt (groups : ReadGroups) (site : Site) (seat : SeatOf V E) : Type 0 where
    pub of : IsOf site seat
    pub over : (b : Beginning V) → seat.opening ≡ Some b → b.groups ≡ groups

  -- and no request of it is incomplete
  pub record Rests (groups : ReadGroups) (site : Site) (seat : SeatOf V E) : Type 0 where
    pub at : IsAt groups site seat
    pub idle : IsIdle seat

  -- the seat holds all of these resources
  abbrev pub HoldsAll : Set → SeatOf V E → Type 0
  HoldsAll set seat = (l : ℕ) → contains set l ≡ true → Holding seat l

  -- and it may write them
  abbrev pub MayWriteAll : Set → SeatOf V E → Type 0
  MayWriteAll set seat = (l : ℕ) → contains set l ≡ true → HoldingToWrite seat l
