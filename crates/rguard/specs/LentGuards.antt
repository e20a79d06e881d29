-- What contracts see of guards.
use Rattle.std.specs.Prelude.{◌≡◌, ℕ, Bool, true, Some, List, slice_get}
use Rattle.std.specs.FinSet.{contains}
use Rattle.rset.specs.Sets.{Set}
use Rattle.rclaim.specs.declared.request.Kind.{Kind}
use Rattle.rclaim.specs.declared.request.Kind.TheVariants as kinds
use Rattle.rlock.specs.Known.{Site}
use Rattle.rmodel.specs.Holds.{is_part_of}
use Rattle.rvalue.specs.declared.act.Act.{Act}
use Rattle.rvalue.specs.Acts.{value_within}
use Rattle.rvalue.specs.Histories.{value_of}
use Rattle.rstate.specs.Contents.{is_ready}
use Rattle.rstate.specs.Histories.{Beginning, lock_after, writes_of}
use Rattle.rstate.specs.Laws.{is_held_by}
use Rattle.rguard.specs.declared.kind.GuardKind.{GuardKind}
use Rattle.rguard.specs.declared.kind.GuardKind.TheVariants.{Read, Write, Rise, Nest}
use Rattle.rguard.specs.Seats.{SeatOf}

-- a guard: the lock, the seat, and what its section has done so far
pub record GuardFields (V E : Type 0) : Type 0 where
  pub site : Site
  pub seat : SeatOf V E
  pub acts : List (Act E)

-- the kind of the guard that a request gets
abbrev pub kind_for : Kind → GuardKind
kind_for kinds.Read = Read
kind_for kinds.Write = Write
kind_for kinds.Mixed = Write
kind_for kinds.Upgrade = Rise
kind_for kinds.Nested = Nest

module _ {V E : Type 0} where
  -- a fact about the lock as the seat has seen it last, from how the lock began
  abbrev pub AsSeen : SeatOf V E → (Beginning V → Type 0) → Type 0
  AsSeen seat P = (b : Beginning V) → seat.opening ≡ Some b → P b

  -- the seat holds the resource
  abbrev pub Holding : SeatOf V E → ℕ → Type 0
  Holding seat l = AsSeen seat (λ b. is_held_by (lock_after b seat.seen) seat.number l ≡ true)

  -- the seat holds the resource for writing
  abbrev pub HoldingToWrite : SeatOf V E → ℕ → Type 0
  HoldingToWrite seat l = AsSeen seat (λ b. contains (writes_of (lock_after b seat.seen) seat.number) l ≡ true)

  -- whether nothing of the seat is pending
  abbrev pub IsReady : SeatOf V E → Bool → Type 0
  IsReady seat ready = AsSeen seat (λ b. is_ready (lock_after b seat.seen) seat.number ≡ ready)

  -- the resource has this value in the section: what the history that the seat has seen makes of its opening value, with the section's own edits
  abbrev pub HasValue : (V → E → V) → GuardFields V E → ℕ → V → Type 0
  HasValue after guard l value =
      AsSeen guard.seat (λ b. (opening : V) × (slice_get b.values l ≡ Some opening) × (value ≡ value_within after (value_of after opening guard.seat.seen l) guard.acts l))

  -- a set is a non-empty part of what the request of the seat is about
  abbrev pub IsPartOf : SeatOf V E → Set → Type 0
  IsPartOf seat part = AsSeen seat (λ b. is_part_of (lock_after b seat.seen).claims seat.number part ≡ true)

  -- what a guard holds still has the value that it had
  abbrev pub KeepsValues : (V → E → V) → GuardFields V E → GuardFields V E → Type 0
  KeepsValues after before later = (l : ℕ) (value : V) → Holding before.seat l → HasValue after before l value → HasValue after later l value

  -- what the seat holds it still holds, in the same way, and each part that it might ask for it may still ask for
  pub record KeepsHolding (seat later : SeatOf V E) : Type 0 where
    pub holds : (l : ℕ) → Holding seat l → Holding later l
    pub writes : (l : ℕ) → HoldingToWrite seat l → HoldingToWrite later l
    pub asks : (part : Set) → IsPartOf seat part → IsPartOf later part
