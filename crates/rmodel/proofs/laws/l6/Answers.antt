use Rattle.rmodel.proofs.theorems.LawProofs.{taking_turns, taking_turns_a_step}
use Rattle.rmodel.proofs.laws.l6.Goals as goal

pub returns-clause-any : goal.returns-clause-any
returns-clause-any c = taking_turns

pub returns-clause-step : goal.returns-clause-step
returns-clause-step c = taking_turns_a_step
