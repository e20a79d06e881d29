use Rattle.std.proofs.Common.{◌≡◌, ◌<◌, length, ap, subst, ◌∙◌, arith}
use Rattle.rscript.proofs.Gathering.{fills_none, fills_more, fills_all, is_next, is_there_yet, are_of_task}
use Rattle.rscript.proofs.needs.push_tasks.Goals as goal

pub loop-task-init : goal.loop-task-init
loop-task-init c = fills_none c.args.needs.now c.args.script.now c.tasks.ensures.script c.requires

pub push_task-requires-clause-task : goal.push_task-requires-clause-task
push_task-requires-clause-task c =
    let all : c.len-task-end.result ≡ length c.args.script.now.tasks = c.len-task-end.ensures.value ∙ ap length c.tasks.ensures.value in
    is_there_yet c.loop-task.needs c.args.script.now c.loop-task.task c.tasks.ensures.script (subst (λ n. c.loop-task.task < n) all c.loop-task-test.true) c.loop-task.invariant

pub push_task-requires-clause-statements : goal.push_task-requires-clause-statements
push_task-requires-clause-statements c = are_of_task c.loop-task.needs c.args.script.now c.loop-task.task c.steps.result.now c.tasks.ensures.script c.steps.ensures.steps c.loop-task.invariant

pub push_task-requires-clause-none : goal.push_task-requires-clause-none
push_task-requires-clause-none c = is_next c.loop-task.needs c.args.script.now c.loop-task.task c.loop-task.invariant

pub loop-task-preserved : goal.loop-task-preserved
loop-task-preserved c =
    fills_more c.loop-task.needs c.push_task.new.needs c.args.script.now c.loop-task.task c.steps.result.now c.steps.ensures.steps c.loop-task.invariant c.in_ok-push_task.ensures

pub returns : goal.returns
returns c =
    let all : c.len-task-end.result ≡ length c.args.script.now.tasks = c.len-task-end.ensures.value ∙ ap length c.tasks.ensures.value in
    let done : c.loop-task.task ≡ c.len-task-end.result = omega (arith, c.loop-task.auto.task-end, c.loop-task-test.false) in
    fills_all c.loop-task.needs c.args.script.now c.loop-task.task c.tasks.ensures.script (done ∙ all) c.loop-task.invariant
