use Rattle.std.proofs.Common.{rules}
use Rattle.io_ends.proofs.calls.at_most.Goals as goal

pub returns-in-Some-clause-value : goal.returns-in-Some-clause-value
returns-in-Some-clause-value c = search rules
