use Rattle.std.proofs.Common.{◌++◌, ℕ, ap, ◌∙◌, rules}
use Rattle.rtrace_form.specs.SetFields.{name_at}
use Rattle.rtrace_form.specs.Texts.{text_of}
use Rattle.rnlp_cli.specs.BoundText.{task_rows}
use Rattle.rnlp_cli.proofs.LinesBehind.{rows_more, named}
use Rattle.rnlp_cli.proofs.bound_lines.push_tasks.Goals as goal

pub loop-task-preserved : goal.loop-task-preserved
loop-task-preserved c =
    let rows = λ (task : ℕ). task_rows c.args.bounds.now.needs c.args.bounds.now.cap (name_at c.args.tasks.now task) task in
    c.in_ok-push_task.ensures
    ∙ ap (λ name. c.loop-task.text.items ++ text_of (task_rows c.args.bounds.now.needs c.args.bounds.now.cap name c.loop-task.task)) (named c.args.tasks.now c.loop-task.task c.name_of.result.now c.name_of.ensures)
    ∙ ap (λ text. text ++ text_of (rows c.loop-task.task)) c.loop-task.invariant
    ∙ rows_more rows c.args.text.now.items c.loop-task.task

pub loop-task-init : goal.loop-task-init
loop-task-init c = search rules
