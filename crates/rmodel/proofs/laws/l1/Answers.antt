use Rattle.rmodel.proofs.theorems.LawProofs.{one_settlement, one_settlement_a_step}
use Rattle.rmodel.proofs.laws.l1.Goals as goal

pub returns-clause-any : goal.returns-clause-any
returns-clause-any c = one_settlement

pub returns-clause-step : goal.returns-clause-step
returns-clause-step c = one_settlement_a_step
