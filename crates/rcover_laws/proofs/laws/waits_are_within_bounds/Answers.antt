use Rattle.rcover_laws.proofs.bounds.Within.{waits_are_within_bounds}
use Rattle.rcover_laws.proofs.laws.waits_are_within_bounds.Goals as goal

pub returns : goal.returns
returns c = waits_are_within_bounds
