use Rattle.rbound_history.specs.ShapeNeeds.{requests_of_shapes}
use Rattle.rbound_history.specs.Kept.{shapes_in}
use Rattle.rbound_history.proofs.Gathering.{HasPut}
use Rattle.rbound_history.proofs.needed.push_task.Given as goal

abbrev pub invariant-loop-place : goal.invariant-loop-place
invariant-loop-place l = HasPut l.fn.needs l.needs l.fn.task (requests_of_shapes (shapes_in l.fn.entries) l.fn.task) l.place-index
