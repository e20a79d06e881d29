use Rattle.std.proofs.Common.{arith}
use Rattle.std.proofs.lemmas.Grind.{common_steps}
use Rattle.rtrace_read.proofs.due.is_same_grant.Goals as goal

pub returns-then-due-seat : goal.returns-then-due-seat
returns-then-due-seat c = grind (arith, common_steps)
