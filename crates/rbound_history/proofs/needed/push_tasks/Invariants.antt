use Rattle.std.proofs.Common.{◌≡◌}
use Rattle.rbound_history.specs.Kept.{shapes_in, gathered}
use Rattle.rbound_history.proofs.needed.push_tasks.Given as goal

abbrev pub invariant-loop-task : goal.invariant-loop-task
invariant-loop-task l = l.needs ≡ record l.fn.needs { tasks = gathered (shapes_in l.fn.entries) l.fn.tasks l.task }
