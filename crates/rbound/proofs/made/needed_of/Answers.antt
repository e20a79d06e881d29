use Rattle.std.proofs.Common.{rules}
use Rattle.rbound.proofs.made.needed_of.Goals as goal

pub returns-in-Upgrade-clause-value : goal.returns-in-Upgrade-clause-value
returns-in-Upgrade-clause-value c = search rules
