use Rattle.std.proofs.Common.{rules}
use Rattle.rbound.proofs.write_wait.writes_of.Goals as goal

pub returns-clause-value : goal.returns-clause-value
returns-clause-value c = search rules
