-- What the looks of one monitor show, together.
use Rattle.std.specs.Prelude.{◌≡◌, ◌≤◌, List, Some, All, length, take, slice_get}
use Rattle.std.specs.List.Sorted.{IsNonDecreasingBy}
use Rattle.rclaim.specs.declared.event.Event.{Event}
use Rattle.rmodel.specs.State.{LockState}
use Rattle.rmodel.specs.Steps.{after}
use Rattle.rmon.specs.declared.look.Look.{Look}
use Rattle.rmon.specs.Looks.{look_of}
use Rattle.rlooks.specs.declared.lookout.TheConstants.{ROUNDS, LOOKS}

-- the look is one at the state after a beginning of these events: after as many of them as it counts
pub record IsLookAt (start : LockState) (events : List Event) (look : Look) : Type 0 where
  pub within : look.events ≤ length events
  pub shows : look ≡ look_of (after start (take look.events events)) look.events

-- looks in the order in which they were made: each is one at a state on the way, and none counts fewer events than an earlier one
pub record AreInOrder (start : LockState) (events : List Event) (looks : List Look) : Type 0 where
  pub each : All (IsLookAt start events) looks
  pub rising : IsNonDecreasingBy (λ (look : Look). look.events) looks

-- all looks of one monitor at a lock that began with this state and is closed with these events: the last one has all of them
pub record AreLooksAt (start : LockState) (events : List Event) (looks : List Look) : Type 0 where
  pub count : length looks ≡ LOOKS
  pub each : All (IsLookAt start events) looks
  pub rising : IsNonDecreasingBy (λ (look : Look). look.events) looks
  pub last : (look : Look) → slice_get looks ROUNDS ≡ Some look → look.events ≡ length events
