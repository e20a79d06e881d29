use Rattle.std.proofs.Common.{rules}
use Rattle.rtrace.proofs.collect.add_act.Goals as goal

pub returns-clause-ok : goal.returns-clause-ok
returns-clause-ok c = search rules
