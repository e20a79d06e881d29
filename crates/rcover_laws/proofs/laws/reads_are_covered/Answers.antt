use Rattle.rcover_laws.proofs.covers.Theorems.{reads_are_covered}
use Rattle.rcover_laws.proofs.laws.reads_are_covered.Goals as goal

pub returns : goal.returns
returns c = reads_are_covered
