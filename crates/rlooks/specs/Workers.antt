-- What the worker that feeds keeps between two of its rounds.
use Rattle.std.specs.Prelude.{◌≡◌, ℕ, Bool, List, Some, map, length}
use mathlib.Core.List.{IsPrefix}
use Rattle.rclaim.specs.declared.event.Event.{Event}
use Rattle.rvalue.specs.Entries.{EntryFields}
use Rattle.rmodel.specs.Steps.{after, AreAccepted}
use Rattle.rstate.specs.Histories.{Beginning, first_of}
use Rattle.rlock.specs.Known.{Site}
use Rattle.rguard.specs.Seats.{SeatOf}
use Rattle.rguard.specs.Scribes.{IsScribeOf, HasReadLawful}
use Rattle.rmon.specs.declared.rule.Opening.{Opening}
use Rattle.rmon.specs.declared.look.Look.{Look}
use Rattle.rmon.specs.Known.{Feeding, Watching}
use Rattle.rmon.specs.Looks.{look_of}

abbrev pub events_in : {E : Type 0} → List (EntryFields E) → List Event
events_in entries = map (λ entry. entry.event) entries

-- how the feed of a lock that began like this begins
abbrev pub opening_for : {V : Type 0} → Beginning V → Opening
opening_for b = record { groups = b.groups; seats = b.seats; cap = b.cap }

module _ {V E : Type 0} (after_edit : V → E → V) (taken : V → E → Bool) (number : V → ℕ) where
  -- The scribe is that of the lock, which began like this, and what it has seen is lawful. The feed began as the lock did, and was fed a beginning of
  -- what the scribe has seen; the monitor belongs to that feed
  pub record Feeds (site : Site) (b : Beginning V) (scribe : SeatOf V E) (feed : Feeding) (monitor : Watching) : Type 0 where
    pub of : IsScribeOf site scribe
    pub began : scribe.opening ≡ Some b
    pub lawful : HasReadLawful after_edit taken number scribe
    pub opened : feed.opening ≡ Some (opening_for b)
    pub fed : IsPrefix feed.fed (events_in scribe.seen)
    pub its_feed : monitor.feed ≡ feed.feed
    pub its_opening : monitor.opening ≡ feed.opening

-- the monitor has looked: what it has seen is accepted from how the lock began, and the look is that of the state after it
pub record IsLookFrom {V : Type 0} (b : Beginning V) (before monitor : Watching) (look : Look) : Type 0 where
  pub begins : IsPrefix before.seen monitor.seen
  pub accepted : AreAccepted (first_of b) monitor.seen
  pub look_is : look ≡ look_of (after (first_of b) monitor.seen) (length monitor.seen)
