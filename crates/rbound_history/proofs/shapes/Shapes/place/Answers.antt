use Rattle.std.proofs.Common.{◌<◌, length, ap, sym, subst, ◌∙◌, arith, ℕ}
use Rattle.rbound.proofs.RequestVectors.{length_map}
use Rattle.rbound.specs.TaskNeeds.{requests_of}
use Rattle.rbound_history.specs.Shapes.{task_at}
use Rattle.rbound_history.specs.ShapeNeeds.{needs_of_shapes}
use Rattle.rbound_history.specs.Kept.{shape_in, shapes_in}
use Rattle.rbound_history.specs.TaskShapes.{TaskShapes}
use Rattle.rbound_history.proofs.ShapeRequests.{tasks_at}
use Rattle.rbound_history.proofs.TableGrows.{entry_task, task_below, number_within, any_default}
use Rattle.rbound_history.proofs.shapes.Shapes.place.Goals as goal

pub returns-clause-task : goal.returns-clause-task
returns-clause-task c =
    let entries = c.self.inside.table.entries.items in
    let some : c.args.shape < length (shapes_in entries) = subst (λ (v : TaskShapes). c.args.shape < length v.shapes) (sym c.self.view_is) c.requires in
    entry_task entries c.args.shape c.index.result.now (omega (arith, some, length_map shape_in entries)) c.index.ensures
    ∙ ap (λ (v : TaskShapes). task_at v.shapes c.args.shape) c.self.view_is

pub returns-clause-task_there : goal.returns-clause-task_there
returns-clause-task_there c =
    let t = c.self.inside.table in
    let entries = t.entries.items in
    let ss = shapes_in entries in
    let some : c.args.shape < length ss = subst (λ (v : TaskShapes). c.args.shape < length v.shapes) (sym c.self.view_is) c.requires in
    let task = entry_task entries c.args.shape c.index.result.now (omega (arith, some, length_map shape_in entries)) c.index.ensures in
    let below = task_below (length t.counts.items) ss c.args.shape c.self.invariant.table.tasks some in
    subst (λ (v : TaskShapes). c.index.result.now.task < length (needs_of_shapes v.tasks v.shapes)) c.self.view_is
    (omega (arith, task, below, tasks_at (length t.counts.items) ss))

pub returns-clause-number_there : goal.returns-clause-number_there
returns-clause-number_there c =
    let t = c.self.inside.table in
    let entries = t.entries.items in
    let ss = shapes_in entries in
    let some : c.args.shape < length ss = subst (λ (v : TaskShapes). c.args.shape < length v.shapes) (sym c.self.view_is) c.requires in
    let task = entry_task entries c.args.shape c.index.result.now (omega (arith, some, length_map shape_in entries)) c.index.ensures in
    let within = number_within (length t.counts.items) ss c.args.shape c.self.invariant.table.tasks some in
    let here : c.args.shape < length entries = omega (arith, some, length_map shape_in entries) in
    let number =
    c.index-2.ensures ∙ any_default t.numbers.items c.args.shape c.index-2.result.now (omega (arith, here, c.self.invariant.table.long)) ∙ c.self.invariant.table.numbers c.args.shape here in
    subst (λ (v : TaskShapes). c.index-2.result.now < length (requests_of (needs_of_shapes v.tasks v.shapes) c.index.result.now.task)) c.self.view_is
    (subst (λ (k : ℕ). c.index-2.result.now < length (requests_of (needs_of_shapes (length t.counts.items) ss) k)) (sym task) (subst (λ (k : ℕ). k < length (requests_of (needs_of_shapes (length t.counts.items) ss) (task_at ss c.args.shape))) (sym number) within))
