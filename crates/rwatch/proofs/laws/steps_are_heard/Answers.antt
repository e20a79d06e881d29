use Rattle.rwatch.proofs.Hearing.{steps_are_heard}
use Rattle.rwatch.proofs.laws.steps_are_heard.Goals as goal

pub returns : goal.returns
returns c = steps_are_heard
