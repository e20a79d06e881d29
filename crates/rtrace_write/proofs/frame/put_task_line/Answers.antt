use Rattle.std.proofs.Common.{take}
use Rattle.rtrace_form.specs.Lines.{HasTask}
use Rattle.rtrace_form.specs.SetFields.{name_at}
use Rattle.rtrace_write.specs.Told.{told_line}
use Rattle.rtrace_write.proofs.Puts.{three, same}
use Rattle.rtrace_write.proofs.Rows.{task_is}
use Rattle.rtrace_write.proofs.frame.put_task_line.Goals as goal

pub returns-clause-text : goal.returns-clause-text
returns-clause-text c =
    same (take c.args.at c.args.page.now) _ _ (told_line c.args.names.now (HasTask (name_at c.args.names.now.tasks c.args.seat)))
    (three (take c.args.at c.args.page.now) _ _ _ _ _ _ c.put-at.ensures.text c.put_task-at.ensures.text c.put.ensures.text)
    (task_is c.args.names.now (name_at c.args.names.now.tasks c.args.seat))
