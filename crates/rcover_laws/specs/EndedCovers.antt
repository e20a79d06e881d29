-- What is promised of the waits that an event ends: their numbers are those of sections that cover them.
use Rattle.std.specs.Prelude.{◌≡◌, ℕ, true, List}
use Rattle.rbound.specs.Groups.{ReadGroups}
use Rattle.rclaim.specs.declared.event.Event.{Event}
use Rattle.rmodel.specs.declared.claimed.Claimed.{Claimed}
use Rattle.rmodel.specs.State.{LockState, opening}
use Rattle.rmodel.specs.Steps.{after, AreAccepted}
use Rattle.rmodel.specs.WellFormed.{Among}
use Rattle.rbound.specs.declared.which.Which.{Which}
use Rattle.rcover_laws.specs.Ended.{waits_in, sections_in, ended_by}
use Rattle.rcover_laws.specs.History.{length_in}
use Rattle.rcover_laws.specs.Moments.{Moment, moments}
use Rattle.rcover_laws.specs.Sections.{Covers}
use Rattle.rcover_laws.specs.Told.{wait_so_far}
use Rattle.rcover_laws.specs.Within.{numbers_of}
use Rattle.rcover_laws.specs.declared.wait_end.WaitEnd.{WaitEnd}

-- the moments of a wait of a claim up to the last of some events
abbrev pub moments_of : LockState → List Event → Which → Claimed → List Moment
moments_of o es w x = wait_so_far (waits_in w) x.claim (moments o es)

-- what is reported of a wait after some events is right: a claim was in this wait, its sections cover the wait's moments, and the numbers are theirs
pub record IsCovered (o : LockState) (es : List Event) (w : WaitEnd) : Type 0 where
  pub at : Claimed
  pub among : Among at (after o es).claims
  pub seat : w.seat ≡ at.claim.seat
  pub stamp : w.stamp ≡ at.claim.stamp
  pub waits : waits_in w.which (after o es).claims at ≡ true
  pub covered : Covers (sections_in w.which at (moments_of o es w.which at)) (moments_of o es w.which at)
  pub numbers : record { reads = w.reads; writes = w.writes; units = w.units } ≡ numbers_of (length_in es) (sections_in w.which at (moments_of o es w.which at))

-- what is reported of each wait that an event ends is right
abbrev pub EndedWaitsAreCovered : Type 0
EndedWaitsAreCovered =
    (groups : ReadGroups) (seats cap : ℕ) (events : List Event) (event : Event) → AreAccepted (opening groups seats cap) events
    → (w : WaitEnd) → Among w (ended_by (opening groups seats cap) events event) → IsCovered (opening groups seats cap) events w
