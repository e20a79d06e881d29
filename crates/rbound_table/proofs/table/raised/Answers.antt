use Rattle.std.proofs.Common.{rules}
use Rattle.rbound_table.proofs.table.raised.Goals as goal

pub returns : goal.returns
returns c = search rules
