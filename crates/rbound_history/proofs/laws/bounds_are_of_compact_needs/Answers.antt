use Rattle.rbound_history.proofs.ShapesOfNeeds.{bounds_are_of_compact_needs}
use Rattle.rbound_history.proofs.laws.bounds_are_of_compact_needs.Goals as goal

pub returns : goal.returns
returns c = bounds_are_of_compact_needs
