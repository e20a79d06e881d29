use Rattle.rmodel.proofs.theorems.LawProofs.{one_write_at_most, one_write_at_most_a_step}
use Rattle.rmodel.proofs.laws.l5.Goals as goal

pub returns-clause-any : goal.returns-clause-any
returns-clause-any c = one_write_at_most

pub returns-clause-step : goal.returns-clause-step
returns-clause-step c = one_write_at_most_a_step
