use Rattle.rmodel.proofs.theorems.LawProofs.{somebody_holds, somebody_holds_a_step}
use Rattle.rmodel.proofs.laws.l4.Goals as goal

pub returns-clause-any : goal.returns-clause-any
returns-clause-any c = somebody_holds

pub returns-clause-step : goal.returns-clause-step
returns-clause-step c = somebody_holds_a_step
