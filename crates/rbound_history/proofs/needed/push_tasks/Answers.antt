use Rattle.std.proofs.Common.{◌≡◌, length, ap, sym, ◌∙◌, arith}
use Rattle.rbound.specs.Needs.{Needs}
use Rattle.rbound.specs.TaskNeeds.{TaskNeeds}
use Rattle.rbound_history.specs.ShapeNeeds.{requests_of_shapes, with_requests}
use Rattle.rbound_history.specs.Kept.{shapes_in, gathered}
use Rattle.rbound_history.proofs.Gathering.{gathered_none, gathered_more, gathered_all, gathered_long}
use Rattle.rbound_history.proofs.needed.push_tasks.Goals as goal

pub loop-task-init : goal.loop-task-init
loop-task-init c = ap (λ (ts : Needs). record c.args.needs.now { tasks = ts }) (c.requires.none ∙ sym (gathered_none (shapes_in c.args.entries.now) c.args.tasks))

pub push_task-requires-clause-task : goal.push_task-requires-clause-task
push_task-requires-clause-task c =
    let shapes = shapes_in c.args.entries.now in
    let long = gathered_long shapes c.args.tasks c.loop-task.task (omega (arith, c.loop-task-test.true)) in
    omega (arith, c.loop-task-test.true, long, ap (λ (n : TaskNeeds). length n.tasks) c.loop-task.invariant)

pub loop-task-preserved : goal.loop-task-preserved
loop-task-preserved c =
    let shapes = shapes_in c.args.entries.now in
    let task = c.loop-task.task in
    c.in_ok-push_task.ensures
    ∙ ap (λ (n : TaskNeeds). record n { tasks = with_requests n.tasks task (requests_of_shapes shapes task) }) c.loop-task.invariant
    ∙ ap (λ (ts : Needs). record c.args.needs.now { tasks = ts }) (gathered_more shapes c.args.tasks task c.loop-task-test.true)

pub returns : goal.returns
returns c =
    let shapes = shapes_in c.args.entries.now in
    let done : c.loop-task.task ≡ c.args.tasks = omega (arith, c.loop-task.auto.task-end, c.loop-task-test.false) in
    c.loop-task.invariant ∙ ap (λ (ts : Needs). record c.args.needs.now { tasks = ts }) (ap (gathered shapes c.args.tasks) done ∙ gathered_all shapes c.args.tasks)
