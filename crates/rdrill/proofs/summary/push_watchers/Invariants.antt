use Rattle.std.proofs.Common.{vec_capacity}
use Rattle.rdrill.proofs.Writing.{HasWritten}
use Rattle.rdrill.proofs.summary.push_watchers.Given as goal

abbrev pub invariant-loop-i : goal.invariant-loop-i
invariant-loop-i g l = HasWritten l.fn.text.items l.text.items (vec_capacity l.fn.text) (vec_capacity l.text) (g.A.Audience.all l.audience) l.i
