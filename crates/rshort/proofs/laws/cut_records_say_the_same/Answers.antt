use Rattle.rshort.proofs.Readings.{same_said, same_bounds}
use Rattle.rshort.proofs.laws.cut_records_say_the_same.Goals as goal

pub returns-clause-said : goal.returns-clause-said
returns-clause-said c = same_said

pub returns-clause-bounds : goal.returns-clause-bounds
returns-clause-bounds c = same_bounds
