use Rattle.rscript.proofs.Gathering.{HasFilled}
use Rattle.rscript.proofs.needs.push_tasks.Given as goal

abbrev pub invariant-loop-task : goal.invariant-loop-task
invariant-loop-task l = HasFilled l.needs l.script l.task
