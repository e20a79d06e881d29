use Rattle.std.proofs.Common.{◌≡◌, ◌++◌}
use Rattle.std.specs.Vec.Iter.{into_iter_items}
use Rattle.rscript.specs.Reading.{statements_in}
use Rattle.rscript.proofs.steps.all_steps.Given as goal

-- the statements so far, and those of the tasks that are left
abbrev pub invariant-loop-statements : goal.invariant-loop-statements
invariant-loop-statements l = l.all.items ++ statements_in (into_iter_items l.statements-iterator) ≡ statements_in l.fn.tasks.items
