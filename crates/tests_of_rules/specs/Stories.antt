-- A machine, and the events that it took.
use Rattle.std.specs.Prelude.{◌≡◌, ◌≤◌, ℕ, List}
use Rattle.rset.specs.declared.TheConstants.{RESOURCES, SEATS}
use Rattle.rclaim.specs.declared.event.Event.{Event}
use Rattle.rexpand.specs.Groups.{ReadGroups}
use Rattle.rmodel.specs.State.{LockState, opening}
use Rattle.rmodel.specs.Steps.{after, AreAccepted}
use Rattle.rcover.specs.Past.{Past}
use Rattle.rcover.specs.Follows.{Follows}
use Rattle.rcover.specs.Knows.{Knows}
use Rattle.rcover.specs.declared.covers.Covers.{Covers}
use Rattle.rcover.specs.declared.following.Following.{Following}

-- these events over these groups, with this many seats
abbrev pub past : ReadGroups → ℕ → List Event → Past
past groups many events = record { groups = groups; seats = many; cap = many; events = events }

-- these events were accepted one after another over these groups, and led to this state; the follower and the covers
-- have seen them
pub record IsStory (groups : ReadGroups) (many : ℕ) (events : List Event) (lock : LockState) (following : Following) (covers : Covers) : Type 0 where
  pub resources : groups.q ≡ RESOURCES
  pub placed : lock.groups.q ≡ RESOURCES
  pub some_seats : 1 ≤ many
  pub seats : many ≤ SEATS
  pub accepted : AreAccepted (opening groups many many) events
  pub state : lock ≡ after (opening groups many many) events
  pub followed : Follows following (past groups many events)
  pub told : Knows covers (past groups many events)
