-- What a watch keeps beside a lock, and when it may end.
use Rattle.std.specs.Prelude.{◌≡◌, ℕ, Bool, List, [], Some, Option, Result, MatchResult, length}
use Rattle.std.specs.declared.alloc.AllocError.{AllocError}
use mathlib.Core.List.{IsPrefix}
use Rattle.rclaim.specs.declared.event.Event.{Event}
use Rattle.rmodel.specs.Steps.{AreAccepted}
use Rattle.rstate.specs.Histories.{Beginning}
use Rattle.rlock.specs.Known.{Site}
use Rattle.rguard.specs.Seats.{SeatOf}
use Rattle.rguard.specs.Scribes.{IsScribeOf}
use Rattle.rmon.specs.declared.rule.Opening.{Opening}
use Rattle.rmon.specs.Known.{Feeding, begun, newcomer}
use Rattle.rmon.specs.Opened.{opening_of}
use Rattle.rlooks.specs.declared.lookout.TheConstants.{ROUNDS}
use Rattle.rlooks.specs.declared.watch.Watch.{Watch}
use Rattle.rlooks.specs.Lookouts.{Looking, GoesOn}
use Rattle.rlooks.specs.Workers.{Feeds}

-- a watch that began like this: nothing is fed, nothing was seen, and no look was made
pub record IsNew (o : Opening) (w : Watch) : Type 0 where
  pub feed : w.feed ≡ begun w.feed.feed o
  pub first : w.first ≡ record { monitor = newcomer w.feed.feed o; looks = [] }
  pub second : w.second ≡ record { monitor = newcomer w.feed.feed o; looks = [] }

module _ {V E : Type 0} (after_edit : V → E → V) (taken : V → E → Bool) (number : V → ℕ) where
  -- The worker that feeds may do so, both monitors are of this feed, and so many rounds were made with each
  pub record Watches (rounds : ℕ) (site : Site) (b : Beginning V) (scribe : SeatOf V E) (w : Watch) : Type 0 where
    pub feeds : Feeds after_edit taken number site b scribe w.feed w.first.monitor
    pub its_feed : w.second.monitor.feed ≡ w.feed.feed
    pub its_opening : w.second.monitor.opening ≡ w.feed.opening
    pub first : length w.first.looks ≡ rounds
    pub second : length w.second.looks ≡ rounds

  -- the scribe is at its place, and the worker that feeds has made no round yet
  abbrev pub MayFeed : Site → Option (SeatOf V E) → Feeding → Looking → Type 0
  MayFeed site place feed looking = (scribe : SeatOf V E) × ((place ≡ Some scribe) × ((length looking.looks ≡ 0) × ((b : Beginning V) × Feeds after_edit taken number site b scribe feed looking.monitor)))

  -- it has made all rounds, or memory ran out; the scribe comes back
  abbrev pub HasFed : Site → Option (SeatOf V E) → Feeding → Looking → Result (SeatOf V E) (SeatOf V E × AllocError) → Feeding → Looking → Type 0
  HasFed site place feed looking back feed2 looking2 = (scribe : SeatOf V E) (b : Beginning V) → place ≡ Some scribe → Feeds after_edit taken number site b scribe feed looking.monitor
      → MatchResult back (λ s. Feeds after_edit taken number site b s feed2 looking2.monitor × GoesOn ROUNDS looking looking2) (λ e. IsScribeOf site e.0)

  -- the scribe is at its place, and no worker has made a round yet
  abbrev pub MayWatch : Site → Option (SeatOf V E) → Watch → Type 0
  MayWatch site place w = (scribe : SeatOf V E) × ((place ≡ Some scribe) × ((b : Beginning V) × Watches 0 site b scribe w))

  -- both have made all rounds, or memory ran out; the scribe comes back
  abbrev pub HasWatched : Site → Option (SeatOf V E) → Watch → Result (SeatOf V E) (SeatOf V E × AllocError) → Watch → Type 0
  HasWatched site place w back later = (scribe : SeatOf V E) (b : Beginning V) → place ≡ Some scribe → Watches 0 site b scribe w
      → MatchResult back (λ s. Watches ROUNDS site b s later) (λ e. IsScribeOf site e.0)

-- The watch may end with these events: they are accepted from how its feed began, which was fed a beginning of them; both monitors are of this feed, and
-- all rounds were made
pub record MayEnd (events : List Event) (w : Watch) : Type 0 where
  pub began : Opening
  pub opened : w.feed.opening ≡ Some began
  pub accepted : AreAccepted (opening_of began) events
  pub fed : IsPrefix w.feed.fed events
  pub first_feed : w.first.monitor.feed ≡ w.feed.feed
  pub first_opening : w.first.monitor.opening ≡ w.feed.opening
  pub second_feed : w.second.monitor.feed ≡ w.feed.feed
  pub second_opening : w.second.monitor.opening ≡ w.feed.opening
  pub first : length w.first.looks ≡ ROUNDS
  pub second : length w.second.looks ≡ ROUNDS
