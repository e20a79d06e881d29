use Rattle.std.proofs.Common.{rules}
use Rattle.rbound_table.proofs.two.led_by.Goals as goal

pub returns : goal.returns
returns c = search rules
