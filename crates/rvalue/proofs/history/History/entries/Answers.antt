use Rattle.std.proofs.Common.{rules}
use Rattle.rvalue.proofs.history.History.entries.Goals as goal

pub returns : goal.returns
returns g c = search rules
