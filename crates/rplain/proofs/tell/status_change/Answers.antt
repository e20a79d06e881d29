use Rattle.std.proofs.Common.{rules}
use Rattle.rplain.proofs.tell.status_change.Goals as goal

pub returns-then-was-now : goal.returns-then-was-now
returns-then-was-now c = search rules
