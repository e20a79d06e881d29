use Rattle.std.proofs.Common.{rules}
use Rattle.rbound.proofs.bound.write_bound.Goals as goal

pub returns : goal.returns
returns c = search rules
