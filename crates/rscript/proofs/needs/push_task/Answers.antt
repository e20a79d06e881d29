use Rattle.rscript.proofs.Gathering.{goes_on, puts_more}
use Rattle.rscript.proofs.needs.push_task.Goals as goal

pub push_statement-requires-clause-goes_on : goal.push_statement-requires-clause-goes_on
push_statement-requires-clause-goes_on c =
    goes_on c.args.needs.now c.loop-statement.needs c.args.task c.args.statements.now c.loop-statement.statement-index c.statement-item.result c.loop-statement-test.true c.statement-item.is c.requires.task c.requires.statements
    c.loop-statement.invariant

pub loop-statement-preserved : goal.loop-statement-preserved
loop-statement-preserved c =
    puts_more c.args.needs.now c.loop-statement.needs c.push_statement.new.needs c.args.task c.args.statements.now c.loop-statement.statement-index c.statement-item.result c.loop-statement-test.true c.statement-item.is c.requires.task
    c.loop-statement.invariant c.in_ok-push_statement.ensures
