use Rattle.std.proofs.Common.{rules}
use Rattle.rmodel.proofs.admission.admit.Goals as goal

pub returns-clause-admitted : goal.returns-clause-admitted
returns-clause-admitted c = search rules

pub returns-clause-undeclared : goal.returns-clause-undeclared
returns-clause-undeclared c = search rules
