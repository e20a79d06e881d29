use Rattle.std.proofs.Common.{arith}
use Rattle.std.proofs.lemmas.Grind.{common_steps}
use Rattle.io_ends.proofs.reading.make_room.Goals as goal

pub returns-clause-short : goal.returns-clause-short
returns-clause-short c = grind (arith, common_steps)

pub returns-clause-front : goal.returns-clause-front
returns-clause-front c = grind (arith, common_steps)
