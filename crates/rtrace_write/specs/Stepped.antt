-- A history that is stepped through again: where a machine and a follower are after some of its events.
use Rattle.std.specs.Prelude.{◌≡◌}
use Rattle.rclaim.specs.declared.event.Event.{Event}
use Rattle.rmodel.specs.Changes.{changes_between}
use Rattle.rmodel.specs.State.{LockState}
use Rattle.rmodel.specs.Steps.{next}
use Rattle.rplain.specs.Machine.{Standing}
use Rattle.rtrace_write.specs.Follows.{Follows}
use Rattle.rtrace_write.specs.Past.{Past, state_of, with_event}
use Rattle.rtrace_write.specs.Following.{Following}

-- a machine in this state and a follower are after these events
pub record AreBehind (s : LockState) (following : Following) (p : Past) : Type 0 where
  pub state : s ≡ state_of p
  pub follows : Follows following p

-- a machine and a follower took an event after these
pub record TookNext (machine : Standing) (following : Following) (p : Past) (e : Event) : Type 0 where
  pub behind : AreBehind machine.state following (with_event p e)
  pub changes : machine.last ≡ changes_between (state_of p) (next (state_of p) e)
