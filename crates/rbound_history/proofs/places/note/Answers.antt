use Rattle.std.proofs.Common.{ap, ◌∙◌, ◌++◌, ◌∷◌, [], slice_set, arith}
use Rattle.rbound_history.specs.Places.{lists_in, list_at}
use Rattle.rbound_history.proofs.TaskPlaces.{one_noted}
use Rattle.rbound_history.proofs.places.note.Goals as goal

pub returns : goal.returns
returns c =
    let places = c.args.places.now.items in
    one_noted places c.from.result c.index_mut.result.now c.push.new.self c.args.place (omega (arith, c.requires, c.from.ensures)) c.index_mut.ensures.value c.in_ok-push.ensures.items
    ∙ ap (λ k. slice_set (lists_in places) k (list_at places k ++ c.args.place ∷ [])) c.from.ensures
