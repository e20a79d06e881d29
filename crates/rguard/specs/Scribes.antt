-- The scribe of a lock: a pass at its gate that is no seat. It reads the history, and makes no entries.
use Rattle.std.specs.Prelude.{◌≡◌, ℕ, ◌+◌, Bool, Some, List, [], map, drop}
use Rattle.rclaim.specs.declared.event.Event.{Event}
use Rattle.rlock.specs.Known.{Site}
use Rattle.rvalue.specs.Entries.{EntryFields}
use Rattle.rstate.specs.Histories.{Beginning, IsLawfulFrom}
use Rattle.rguard.specs.Seats.{SeatOf}

-- the events of the entries from a position on
abbrev pub events_from : {E : Type 0} → ℕ → List (EntryFields E) → List Event
events_from from entries = map (λ entry. entry.event) (drop from entries)

module _ {V E : Type 0} where
  -- Its pass has the number after those of the seats, and is the only pass that is no seat. `began` is how the lock began
  pub record IsScribeOf (site : Site) (scribe : SeatOf V E) : Type 0 where
    pub gate : scribe.gate ≡ site.gate
    pub began : Beginning V
    pub opening : scribe.opening ≡ Some began
    pub all : began.seats ≡ site.seats
    pub behind : scribe.number ≡ site.seats
    pub only : site.passes ≡ site.seats + 1
    pub nothing : scribe.mine ≡ []

  -- what the scribe has seen is lawful from how the lock began
  abbrev pub HasReadLawful : (V → E → V) → (V → E → Bool) → (V → ℕ) → SeatOf V E → Type 0
  HasReadLawful after taken number scribe = (b : Beginning V) → scribe.opening ≡ Some b → IsLawfulFrom after taken number b scribe.seen
