use Rattle.rmodel.proofs.theorems.LawProofs.{settled_is_stable, settled_is_stable_a_step}
use Rattle.rmodel.proofs.laws.l2.Goals as goal

pub returns-clause-any : goal.returns-clause-any
returns-clause-any c = settled_is_stable

pub returns-clause-step : goal.returns-clause-step
returns-clause-step c = settled_is_stable_a_step
