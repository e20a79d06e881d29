use Rattle.std.proofs.Common.{◌≡◌, true, ap, refl, ◌∙◌, arith}
use Rattle.rbound.proofs.RequestVectors.{length_map}
use Rattle.rbound_history.specs.Shapes.{is_nested_at}
use Rattle.rbound_history.specs.Kept.{shape_in, shapes_in}
use Rattle.rbound_history.specs.TaskShapes.{TaskShapes}
use Rattle.rbound_history.proofs.TableGrows.{nested_there, table_asked}
use Rattle.rbound_history.proofs.shapes.Shapes.add_ask.Goals as goal

pub push_ask-requires : goal.push_ask-requires
push_ask-requires c =
    let entries = c.self.inside.table.entries.items in
    let nested : is_nested_at (shapes_in entries) c.args.shape ≡ true = ap (λ (v : TaskShapes). is_nested_at v.shapes c.args.shape) c.self.view_is ∙ c.requires in
    omega (arith, nested_there (shapes_in entries) c.args.shape nested, length_map shape_in entries)

pub invariant_of-self : goal.invariant_of-self
invariant_of-self c =
    let t = c.self.inside.table in
    let nested : is_nested_at (shapes_in t.entries.items) c.args.shape ≡ true = ap (λ (v : TaskShapes). is_nested_at v.shapes c.args.shape) c.self.view_is ∙ c.requires in
    record {
      table =
          table_asked c.push_ask.result t (record { keys = t.keys; entries = c.push_ask.new.entries; numbers = t.numbers; counts = t.counts }) c.args.shape c.args.set c.self.invariant.table nested refl refl refl c.push_ask.ensures.ok
          c.push_ask.ensures.err;
      few = c.self.invariant.few;
    }
