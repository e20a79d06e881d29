use Rattle.std.proofs.Common.{◌∙◌, sym}
use Rattle.rplain.proofs.stepping.PlainSteps.{step_holds, changes_hold}
use Rattle.rplain.proofs.plain.PlainMachine.step.Goals as goal

pub returns-clause-step : goal.returns-clause-step
returns-clause-step c =
    step_holds c.args.self.now.state c.take.new.self.state c.args.event c.take.ensures.sound
    (record { fits = c.requires; normal = c.take.ensures.normal; accepted = sym c.refusal.ensures ∙ c.in_default.is }) c.take.ensures.state

pub returns-clause-changes : goal.returns-clause-changes
returns-clause-changes c =
    changes_hold c.args.self.now.state c.take.new.self.state c.args.event c.take.ensures.sound
    (record { fits = c.requires; normal = c.take.ensures.normal; accepted = sym c.refusal.ensures ∙ c.in_default.is }) c.take.ensures.state
    c.take.new.self.last c.take.ensures.statuses c.take.ensures.grants
