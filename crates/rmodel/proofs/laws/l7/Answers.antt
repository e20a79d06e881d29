use Rattle.rmodel.proofs.theorems.LawProofs.{earliest_is_entitled, earliest_is_entitled_a_step}
use Rattle.rmodel.proofs.laws.l7.Goals as goal

pub returns-clause-any : goal.returns-clause-any
returns-clause-any c = earliest_is_entitled

pub returns-clause-step : goal.returns-clause-step
returns-clause-step c = earliest_is_entitled_a_step
