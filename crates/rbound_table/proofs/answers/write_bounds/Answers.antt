use Rattle.rbound.specs.ZoneRows.{numbers_of}
use Rattle.rbound_table.proofs.ZoneFacts.{bounds_more}
use Rattle.rbound_table.proofs.answers.write_bounds.Goals as goal

pub loop-task-preserved : goal.loop-task-preserved
loop-task-preserved c =
    bounds_more (numbers_of c.args.rows.now c.args.tasks c.args.cap) c.loop-task.bounds.items c.push.new.self.items c.loop-task.task c.bound_by.result c.loop-task.invariant c.in_ok-push.ensures.items c.bound_by.ensures
