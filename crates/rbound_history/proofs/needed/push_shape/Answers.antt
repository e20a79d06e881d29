use Rattle.std.proofs.Common.{ap, sym, ◌∙◌, map}
use Rattle.rmodel.specs.Claims.{is_nested}
use Rattle.rbound.specs.TaskNeeds.{TaskNeeds, requests_of, last_is_nested}
use Rattle.rbound_history.specs.ShapeNeeds.{with_asks}
use Rattle.rbound_history.specs.Kept.{shape_in}
use Rattle.rbound_history.specs.declared.shape_key.AskedSet.{AskedSet}
use Rattle.rbound_history.proofs.Gathering.{request_nested, nested_put, plain_put, on_ok_weaker}
use Rattle.rbound_history.proofs.needed.push_shape.Goals as goal

pub push_asks-requires-clause-nested : goal.push_asks-requires-clause-nested
push_asks-requires-clause-nested c =
    let entry = c.args.entry.now in
    ap (λ (n : TaskNeeds). last_is_nested (requests_of n.tasks entry.task)) c.in_ok-push.ensures.ok
    ∙ request_nested c.args.needs.now.tasks entry.task entry.request c.requires.task
    ∙ ap is_nested (sym c.kind.ensures.value) ∙ sym c.if-is_nested.ensures

pub returns-then-is_nested : goal.returns-then-is_nested
returns-then-is_nested c =
    let entry = c.args.entry.now in
    let sets = map (λ (a : AskedSet). a.set) c.as_slice.result.now in
    on_ok_weaker c.push_asks.result
    (λ put. put ∙ ap (λ (n : TaskNeeds). record n { tasks = with_asks n.tasks entry.task sets }) c.in_ok-push.ensures.ok
    ∙ nested_put c.args.needs.now (shape_in entry) sets (ap (map (λ (a : AskedSet). a.set)) c.as_slice.ensures))
    c.push_asks.ensures

pub returns-else-is_nested : goal.returns-else-is_nested
returns-else-is_nested c =
    let entry = c.args.entry.now in
    c.in_ok-push.ensures.ok ∙ plain_put c.args.needs.now (shape_in entry) c.requires.asks (ap is_nested (sym c.kind.ensures.value) ∙ sym c.if-is_nested.ensures)
