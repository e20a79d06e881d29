use Rattle.std.proofs.Common.{rules}
use Rattle.rrun.proofs.reporting.run_of.Goals as goal

pub returns-in-Ok-clause-entries : goal.returns-in-Ok-clause-entries
returns-in-Ok-clause-entries c = search rules
