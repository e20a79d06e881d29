use Rattle.std.proofs.Common.{arith}
use Rattle.rexpand.proofs.GroupLemmas.{groups_parts}
use Rattle.rexpand.proofs.groups.Groups.q.Goals as goal

pub overflow_cast-result : goal.overflow_cast-result
overflow_cast-result c = let parts = groups_parts _ c.self.invariant.valid in omega (arith, parts.small)
