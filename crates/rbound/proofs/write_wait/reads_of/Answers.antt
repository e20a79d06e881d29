use Rattle.std.proofs.Common.{rules}
use Rattle.rbound.proofs.write_wait.reads_of.Goals as goal

pub returns-else-none_beside-clause-value : goal.returns-else-none_beside-clause-value
returns-else-none_beside-clause-value c = search rules
