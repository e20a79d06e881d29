-- The steps of a list.
use Rattle.std.specs.Prelude.{◌≡◌}
use Rattle.rmodel.specs.Steps.{AreAccepted}
use Rattle.rtrace_form.specs.Heads.{opening_of}
use Rattle.rtrace_form.specs.Reports.{Report}
use Rattle.rtrace_form.specs.Waits.{events_of}
use Rattle.rtrace_replay.specs.declared.steps.Steps.{Steps}

-- its events, and a machine in the state before them
pub record IsAtHead (report : Report) (steps : Steps) : Type 0 where
  pub state : steps.machine.state ≡ opening_of report.head
  pub events : steps.events.items ≡ events_of report.entries

-- each of the events is accepted after those before it
pub record AreStepsOf (report : Report) (steps : Steps) : Type 0 where
  pub at_head : IsAtHead report steps
  pub accepted : AreAccepted steps.machine.state steps.events.items
