use Rattle.std.proofs.Common.{arith}
use Rattle.std.proofs.lemmas.Grind.{common_steps}
use Rattle.io_ends.proofs.reading.read_behind.Goals as goal

pub returns-clause-front : goal.returns-clause-front
returns-clause-front g c = grind (arith, common_steps)

pub returns-clause-given : goal.returns-clause-given
returns-clause-given g c = grind (arith, common_steps)
