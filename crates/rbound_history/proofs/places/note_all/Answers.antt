use Rattle.std.proofs.Common.{◌<◌, ◌++◌, ◌∷◌, [], length, slice_set, ap, sym, subst, ◌∙◌, arith}
use Rattle.rbound_history.specs.Places.{lists_in, list_at}
use Rattle.rbound_history.specs.declared.table.Entry.{Entry}
use Rattle.rbound_history.proofs.Gathering.{of_entry}
use Rattle.rbound_history.proofs.TaskPlaces.{places_more}
use Rattle.rbound_history.proofs.places.note_all.Goals as goal

pub note-requires : goal.note-requires
note-requires c =
    let there = of_entry (λ s. s.task < c.args.tasks) c.args.entries.now c.loop-place.place c.index-entries-place.result c.requires.tasks c.loop-place-test.true c.index-entries-place.is in
    subst (λ (y : Entry). y.task < length c.loop-place.places.items) c.index-entries-place.is (omega (arith, there, c.loop-place.invariant.long))

pub loop-place-preserved : goal.loop-place-preserved
loop-place-preserved c =
    let places = c.loop-place.places.items in
    let there = of_entry (λ s. s.task < c.args.tasks) c.args.entries.now c.loop-place.place c.index-entries-place.result c.requires.tasks c.loop-place-test.true c.index-entries-place.is in
    places_more c.args.entries.now c.args.tasks c.loop-place.place c.index-entries-place.result places c.note.new.places.items c.loop-place-test.true c.index-entries-place.is there c.loop-place.invariant
    (c.in_ok-note.ensures ∙ ap (λ (y : Entry). slice_set (lists_in places) y.task (list_at places y.task ++ c.loop-place.place ∷ [])) (sym c.index-entries-place.is))
