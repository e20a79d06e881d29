use Rattle.std.proofs.Common.{rules}
use Rattle.rvalue.proofs.act.Act.redo.Goals as goal

pub returns-in-Shown-clause-right : goal.returns-in-Shown-clause-right
returns-in-Shown-clause-right g c = search rules
