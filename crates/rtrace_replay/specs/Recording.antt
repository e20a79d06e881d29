-- What is known while an event list is read, its report is made, and its events are kept.
use Rattle.std.specs.Prelude.{◌≡◌}
use Rattle.rtrace_form.specs.SoFar.{SoFar, entries_in}
use Rattle.rtrace_form.specs.Waits.{events_of}
use Rattle.rtrace_replay.specs.Replaying.{KnowsReplay}
use Rattle.rtrace_replay.specs.declared.recording.Recording.{Recording}

-- as for a replay, and the events are kept
pub record KnowsSteps (recording : Recording) (s : SoFar) : Type 0 where
  pub replay : KnowsReplay recording.replaying s
  pub events : recording.events.items ≡ events_of (entries_in s)
