use Rattle.std.proofs.Common.{rules}
use Rattle.rplain.proofs.way.is_earlier_write.Goals as goal

pub returns : goal.returns
returns c = search rules
