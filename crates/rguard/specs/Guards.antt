-- What contracts see of guards and waits.
use Rattle.std.specs.Prelude.{◌≡◌, ℕ, Bool, List, [], ◌∷◌}
use Rattle.rset.specs.Sets.{Set}
use Rattle.rclaim.specs.Events.{seat_of}
use Rattle.rclaim.specs.Requests.{RequestFields}
use Rattle.rclaim.specs.declared.event.Event.TheVariants.{Issue, Ask}
use Rattle.rlock.specs.Known.{Site, entries_by}
use Rattle.rvalue.specs.declared.act.Act.{Act}
use Rattle.rvalue.specs.Entries.{EntryFields}
use Rattle.rstate.specs.Histories.{IsLawfulFrom}
use Rattle.rguard.specs.declared.kind.GuardKind.{GuardKind}
use Rattle.rguard.specs.declared.kind.GuardKind.TheVariants.{Nest}
use Rattle.rguard.specs.Seats.{SeatOf, bare, Goes, IsOneTurn}
pub use Rattle.rguard.specs.LentGuards.{GuardFields, kind_for, AsSeen, Holding, HoldingToWrite, IsReady, HasValue, IsPartOf, KeepsValues, KeepsHolding}

-- a wait: the same, and the kind of the guard that comes of it
pub record WaitFields (V E : Type 0) : Type 0 where
  pub site : Site
  pub seat : SeatOf V E
  pub acts : List (Act E)
  pub kind : GuardKind

module _ {V E : Type 0} where
  -- what the seat has seen is lawful from how the lock began
  abbrev pub HasSeenLawful : (V → E → V) → (V → E → Bool) → (V → ℕ) → SeatOf V E → Type 0
  HasSeenLawful after taken number seat = AsSeen seat (λ b. IsLawfulFrom after taken number b seat.seen)

  -- of what the seat has seen, its own entries are those that it has made
  abbrev pub HasSeenOwn : SeatOf V E → Type 0
  HasSeenOwn seat = entries_by (λ (entry : EntryFields E). seat_of entry.event) seat.number seat.seen ≡ seat.mine

  -- the wait is that for the request which the seat has issued, in one turn
  pub record HasBegun (site : Site) (seat : SeatOf V E) (request : RequestFields) (wait : WaitFields V E) : Type 0 where
    pub site_is : wait.site ≡ site
    pub kind_is : wait.kind ≡ kind_for request.kind
    pub no_acts : wait.acts ≡ []
    pub goes : Goes seat (bare (Issue seat.number request) ∷ []) wait.seat
    pub turn : IsOneTurn seat (bare (Issue seat.number request) ∷ []) wait.seat

  -- the wait is that for a further part, which the guard's seat has asked for in one turn, with the guard's acts
  pub record HasAsked (guard : GuardFields V E) (part : Set) (wait : WaitFields V E) : Type 0 where
    pub site_is : wait.site ≡ guard.site
    pub kind_is : wait.kind ≡ Nest
    pub acts_are : wait.acts ≡ guard.acts
    pub goes : Goes guard.seat (bare (Ask guard.seat.number part) ∷ []) wait.seat
    pub turn : IsOneTurn guard.seat (bare (Ask guard.seat.number part) ∷ []) wait.seat
