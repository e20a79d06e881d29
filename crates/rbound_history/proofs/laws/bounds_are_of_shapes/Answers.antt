use Rattle.rbound_history.proofs.SameBounds.{bounds_are_of_shapes}
use Rattle.rbound_history.proofs.laws.bounds_are_of_shapes.Goals as goal

pub returns : goal.returns
returns c = bounds_are_of_shapes
