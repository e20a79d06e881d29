use Rattle.std.proofs.Common.{rules}
use Rattle.io_ends.proofs.tried.Tried.read.Goals as goal

pub returns-in-Ok-clause-given : goal.returns-in-Ok-clause-given
returns-in-Ok-clause-given g c = search rules

pub returns-in-Ok-clause-end : goal.returns-in-Ok-clause-end
returns-in-Ok-clause-end g c = search rules

pub returns-in-Ok-clause-quiet : goal.returns-in-Ok-clause-quiet
returns-in-Ok-clause-quiet g c = search rules

pub returns-in-Ok-clause-once : goal.returns-in-Ok-clause-once
returns-in-Ok-clause-once g c = search rules

pub loop-self-preserved : goal.loop-self-preserved
loop-self-preserved g c = search rules

pub returns-in-Err : goal.returns-in-Err
returns-in-Err g c = search rules
