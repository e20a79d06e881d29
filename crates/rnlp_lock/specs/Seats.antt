-- What contracts see of a lock and of its seats.
use Rattle.std.specs.Prelude.{◌≡◌, ◌<◌, ◌⊎◌, ℕ, length, All, Any, Option, List, []}
use Rattle.std.specs.List.{AllByRecursion}
use Rattle.rexpand.specs.Groups.{ReadGroups}
use Rattle.rlock.specs.Known.{GateId, Known, Site}
use Rattle.rstate.specs.Contents.{Contents}
use Rattle.rstate.specs.Histories.{Beginning}
use Rattle.rvalue.specs.declared.act.Act.{Act}
use Rattle.rvalue.specs.Entries.{EntryFields}
use Rattle.rguard.specs.Guards.{AsSeen}
use Rattle.rguard.specs.Seats.{SeatOf, Goes}
use Rattle.rguard.specs.Resting.{Rests}

-- a lock: its gate, and its read groups
pub record LockFields : Type 0 where
  pub site : Site
  pub groups : ReadGroups

-- a seat at a gate: its lock, and its pass
pub record SeatAt (S O E : Type 0) : Type 0 where
  pub lock : LockFields
  pub pass : Known S O E

-- a seat of a locked state
abbrev pub SeatFields : Type 0 → Type 0 → Type 0
SeatFields V E = SeatAt (Contents V E) (Beginning V) (EntryFields E)

-- which seat it is, of which lock, and how that began
pub record Who (V : Type 0) : Type 0 where
  pub lock : LockFields
  pub gate : GateId
  pub number : ℕ
  pub opening : Option (Beginning V)

-- the acts of the entry are none, or such as the law allows
abbrev pub MayTell : {E : Type 0} → (List (Act E) → Type 0) → EntryFields E → Type 0
MayTell allows entry = (entry.acts ≡ []) ⊎ allows entry.acts

module _ {V E : Type 0} where
  abbrev pub who_of : LockFields → SeatOf V E → Who V
  who_of lock pass = record { lock = lock; gate = pass.gate; number = pass.number; opening = pass.opening }

  abbrev pub who : SeatFields V E → Who V
  who seat = who_of seat.lock seat.pass

  -- the lock of the seat began with these values
  abbrev pub opens_with : List V → SeatOf V E → Type 0
  opens_with values pass = AsSeen pass (λ b. b.values ≡ values)

  -- the pass has recorded no more than the law allows, and its lock began with values of which that held
  pub record KeepsLaw (allows : List (Act E) → Type 0) (held : List V → Type 0) (pass : SeatOf V E) : Type 0 where
    pub told : AllByRecursion (MayTell allows) pass.mine
    pub began : AsSeen pass (λ b. held b.values)
    pub counted : AsSeen pass (λ b. length b.values ≡ b.groups.q)

  -- a pass of this lock, which rests and keeps the law
  pub record IsPassOf (allows : List (Act E) → Type 0) (held : List V → Type 0) (lock : LockFields) (pass : SeatOf V E) : Type 0 where
    pub rests : Rests lock.groups lock.site pass
    pub keeps : KeepsLaw allows held pass

  -- the seat came back and has made nothing
  abbrev pub Stayed : SeatFields V E → SeatFields V E → Type 0
  Stayed seat later = (who later ≡ who seat) × Goes seat.pass [] later.pass

-- these are all seats of the lock
pub record AreAllOf {V : Type 0} (lock : LockFields) (seats : List (Who V)) : Type 0 where
  pub each : All (λ w. w.lock ≡ lock) seats
  pub all : (n : ℕ) → n < lock.site.passes → Any (λ w. w.number ≡ n) seats
