use Rattle.std.proofs.Common.{rules}
use Rattle.rvalue.proofs.history.History.push_reserved.Goals as goal

pub returns-clause-entries : goal.returns-clause-entries
returns-clause-entries g c = search rules
