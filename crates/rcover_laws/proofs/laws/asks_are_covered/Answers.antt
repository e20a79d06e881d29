use Rattle.rcover_laws.proofs.covers.Theorems.{asks_are_covered}
use Rattle.rcover_laws.proofs.laws.asks_are_covered.Goals as goal

pub returns : goal.returns
returns c = asks_are_covered
