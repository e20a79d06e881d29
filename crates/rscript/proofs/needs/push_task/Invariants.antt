use Rattle.rscript.proofs.Gathering.{HasPut}
use Rattle.rscript.proofs.needs.push_task.Given as goal

abbrev pub invariant-loop-statement : goal.invariant-loop-statement
invariant-loop-statement l = HasPut l.fn.needs l.needs l.task l.statements l.statement-index
