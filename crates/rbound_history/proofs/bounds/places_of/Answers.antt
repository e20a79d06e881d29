use Rattle.std.proofs.Common.{◌≡◌, ◌++◌, ◌∷◌, [], sym, ◌∙◌, arith}
use Rattle.rbound_history.specs.Knows.{place_in}
use Rattle.std.proofs.lemmas.List.FromFn.{map-range_with_len_more}
use Rattle.rbound_history.proofs.bounds.places_of.Goals as goal

pub loop-shape-preserved : goal.loop-shape-preserved
loop-shape-preserved c =
    let shapes = c.args.shapes.now.shapes in
    let place : record { task = c.place-task.result.0; number = c.place-task.result.1 } ≡ place_in shapes c.loop-shape.shape = λ i. record { task = c.place-task.ensures.task i; number = c.place-task.ensures.number i } in
    c.in_ok-push.ensures.items ∙ (λ i. c.loop-shape.invariant i ++ place i ∷ []) ∙ sym (map-range_with_len_more (place_in shapes) 0 c.loop-shape.shape c.loop-shape.shape (omega arith))
