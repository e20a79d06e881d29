use Rattle.std.proofs.Common.{◌≡◌, true, length, slice_get, ap, refl, sym, ◌∙◌}
use Rattle.rbound_history.specs.Shapes.{is_shape_of, taken_over, with_shape, shape_index}
use Rattle.rbound_history.specs.Kept.{shapes_in}
use Rattle.rbound_history.specs.TaskShapes.{TaskShapes}
use Rattle.rbound_history.proofs.TableFacts.{hint_known, hint_place, known_taken}
use Rattle.rbound_history.proofs.TableGrows.{table_taken}
use Rattle.rbound_history.proofs.shapes.Shapes.add.Goals as goal

pub invariant_of-self : goal.invariant_of-self
invariant_of-self c =
    let t = c.self.inside.table in
    let ts = shapes_in t.entries.items in
    let last = c.place_in-last.result in
    let is : is_shape_of (slice_get ts last) c.args.task c.args.request ≡ true = sym (c.if-is_shape_at.ensures ∙ (λ i. is_shape_of (slice_get (shapes_in (c.deref-2.ensures.value i)) last) c.args.task c.args.request)) in
    let place = hint_place ts last c.args.task c.args.request c.self.invariant.table.different is in
    let taken = ap (λ p. taken_over ts p c.args.request) (sym place) ∙ known_taken ts c.args.task c.args.request (hint_known ts last c.args.task c.args.request is) in
    record {
      table = table_taken t (record { keys = t.keys; entries = c.take_over.new.entries; numbers = t.numbers; counts = t.counts }) c.args.task last c.args.request c.self.invariant.table refl refl refl c.take_over.ensures taken;
      few = c.self.invariant.few;
    }

pub returns-then-is_shape_at-clause-ok : goal.returns-then-is_shape_at-clause-ok
returns-then-is_shape_at-clause-ok c =
    let t = c.self.inside.table in
    let ts = shapes_in t.entries.items in
    let last = c.place_in-last.result in
    let is : is_shape_of (slice_get ts last) c.args.task c.args.request ≡ true = sym (c.if-is_shape_at.ensures ∙ (λ i. is_shape_of (slice_get (shapes_in (c.deref-2.ensures.value i)) last) c.args.task c.args.request)) in
    let place = hint_place ts last c.args.task c.args.request c.self.invariant.table.different is in
    let taken = ap (λ p. taken_over ts p c.args.request) (sym place) ∙ known_taken ts c.args.task c.args.request (hint_known ts last c.args.task c.args.request is) in
    (λ i. record { tasks = length t.counts.items; shapes = (c.take_over.ensures ∙ taken) i })
    ∙ ap (λ (v : TaskShapes). record v { shapes = with_shape v.shapes c.args.task c.args.request }) c.self.view_is

pub returns-then-is_shape_at-clause-place : goal.returns-then-is_shape_at-clause-place
returns-then-is_shape_at-clause-place c =
    let t = c.self.inside.table in
    let ts = shapes_in t.entries.items in
    let last = c.place_in-last.result in
    let is : is_shape_of (slice_get ts last) c.args.task c.args.request ≡ true = sym (c.if-is_shape_at.ensures ∙ (λ i. is_shape_of (slice_get (shapes_in (c.deref-2.ensures.value i)) last) c.args.task c.args.request)) in
    sym (hint_place ts last c.args.task c.args.request c.self.invariant.table.different is)
    ∙ ap (λ (v : TaskShapes). shape_index v.shapes c.args.task c.args.request) c.self.view_is
