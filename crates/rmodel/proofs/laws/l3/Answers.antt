use Rattle.rmodel.proofs.theorems.LawProofs.{settling_is_exclusive, writes_are_exclusive}
use Rattle.rmodel.proofs.laws.l3.Goals as goal

pub returns-clause-any : goal.returns-clause-any
returns-clause-any c = settling_is_exclusive

pub returns-clause-step : goal.returns-clause-step
returns-clause-step c = writes_are_exclusive
