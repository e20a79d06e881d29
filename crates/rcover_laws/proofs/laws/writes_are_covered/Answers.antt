use Rattle.rcover_laws.proofs.covers.Theorems.{writes_are_covered}
use Rattle.rcover_laws.proofs.laws.writes_are_covered.Goals as goal

pub returns : goal.returns
returns c = writes_are_covered
