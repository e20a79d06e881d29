use Rattle.std.proofs.Common.{length, ◌++◌, ◌∷◌, [], slice_get, slice_index, ap, refl, sym, ◌∙◌, arith, List}
use Rattle.rbound_history.specs.Shapes.{is_shape_of, taken_over}
use Rattle.rbound_history.specs.Kept.{shapes_in}
use Rattle.rbound_history.specs.declared.table.Entry.{Entry}
use Rattle.rbound_history.proofs.TableFacts.{known_there, known_taken, new_behind, unknown_by, known_by, keys_pushed, keys_kept, place_by}
use Rattle.rbound_history.proofs.TableGrows.{table_taken, table_pushed, number_small}
use Rattle.rbound_history.proofs.table.enter.Goals as goal

pub push_new-requires-clause-few : goal.push_new-requires-clause-few
push_new-requires-clause-few c =
    let t = c.args.table.now in
    let small = number_small (shapes_in t.entries.items) c.args.task (length t.entries.items) in
    omega (arith, c.requires.table.counts c.args.task c.requires.task, small, ap length c.reserve.ensures.items)

pub take_over-requires : goal.take_over-requires
take_over-requires c =
    let t = c.args.table.now in
    let ts = shapes_in t.entries.items in
    let known = known_by ts t.keys.keys c.args.task c.args.request.now c.key_of.result c.key_of.ensures c.requires.table.keys c.in_ok-place.is_new c.in_ok-place.ensures.added c.if-is_new.false in
    let place = place_by ts t.keys.keys c.args.task c.args.request.now c.key_of.result c.key_of.ensures c.requires.table.keys c.in_ok-place.place c.in_ok-place.ensures.index in
    (λ i. is_shape_of (slice_get (shapes_in (c.reserve.ensures.items i)) (place i)) c.args.task c.args.request.now)
    ∙ known_there ts c.args.task c.args.request.now known

pub returns-then-is_new-clause-table : goal.returns-then-is_new-clause-table
returns-then-is_new-clause-table c =
    let t = c.args.table.now in
    let ts = shapes_in t.entries.items in
    let unknown = unknown_by ts t.keys.keys c.args.task c.args.request.now c.key_of.result c.key_of.ensures c.requires.table.keys c.in_ok-place.is_new c.in_ok-place.ensures.added c.if-is_new.true in
    table_pushed t c.push_new.new.table c.args.task c.args.request.now c.requires.table c.requires.task unknown
    (ap (λ ks. ks.keys) c.push_new.ensures.keys ∙ keys_pushed ts t.keys.keys c.args.task c.args.request.now c.key_of.result c.key_of.ensures c.requires.table.keys c.insert_full.new.self.keys c.in_ok-place.ensures.keys unknown)
    (c.push_new.ensures.shapes ∙ ap (λ (es : List Entry). shapes_in es ++ record { task = c.args.task; request = c.args.request.now; asks = [] } ∷ []) c.reserve.ensures.items)
    (c.push_new.ensures.numbers ∙ ap (λ ns. ns ++ slice_index t.counts.items c.args.task ∷ []) c.reserve-2.ensures.items)
    c.push_new.ensures.counts

pub returns-then-is_new-clause-ok : goal.returns-then-is_new-clause-ok
returns-then-is_new-clause-ok c =
    let t = c.args.table.now in
    let ts = shapes_in t.entries.items in
    let unknown = unknown_by ts t.keys.keys c.args.task c.args.request.now c.key_of.result c.key_of.ensures c.requires.table.keys c.in_ok-place.is_new c.in_ok-place.ensures.added c.if-is_new.true in
    c.push_new.ensures.shapes ∙ ap (λ (es : List Entry). shapes_in es ++ record { task = c.args.task; request = c.args.request.now; asks = [] } ∷ []) c.reserve.ensures.items ∙ sym (new_behind ts c.args.task c.args.request.now unknown)

pub returns-then-is_new-clause-place : goal.returns-then-is_new-clause-place
returns-then-is_new-clause-place c =
    let t = c.args.table.now in
    place_by (shapes_in t.entries.items) t.keys.keys c.args.task c.args.request.now c.key_of.result c.key_of.ensures c.requires.table.keys c.in_ok-place.place c.in_ok-place.ensures.index

pub returns-else-is_new-clause-table : goal.returns-else-is_new-clause-table
returns-else-is_new-clause-table c =
    let t = c.args.table.now in
    let ts = shapes_in t.entries.items in
    let known = known_by ts t.keys.keys c.args.task c.args.request.now c.key_of.result c.key_of.ensures c.requires.table.keys c.in_ok-place.is_new c.in_ok-place.ensures.added c.if-is_new.false in
    let place = place_by ts t.keys.keys c.args.task c.args.request.now c.key_of.result c.key_of.ensures c.requires.table.keys c.in_ok-place.place c.in_ok-place.ensures.index in
    let taken = ap (λ p. taken_over ts p c.args.request.now) place ∙ known_taken ts c.args.task c.args.request.now known in
    let shapes = c.take_over.ensures ∙ ap (λ (es : List Entry). taken_over (shapes_in es) c.in_ok-place.place c.args.request.now) c.reserve.ensures.items in
    table_taken t (record { keys = c.insert_full.new.self; entries = c.take_over.new.entries; numbers = c.reserve-2.new.self; counts = t.counts }) c.args.task c.in_ok-place.place c.args.request.now c.requires.table
    (keys_kept ts t.keys.keys c.args.task c.args.request.now c.key_of.result c.key_of.ensures c.requires.table.keys c.insert_full.new.self.keys c.in_ok-place.ensures.keys known)
    c.reserve-2.ensures.items refl shapes taken

pub returns-else-is_new-clause-ok : goal.returns-else-is_new-clause-ok
returns-else-is_new-clause-ok c =
    let t = c.args.table.now in
    let ts = shapes_in t.entries.items in
    let known = known_by ts t.keys.keys c.args.task c.args.request.now c.key_of.result c.key_of.ensures c.requires.table.keys c.in_ok-place.is_new c.in_ok-place.ensures.added c.if-is_new.false in
    let place = place_by ts t.keys.keys c.args.task c.args.request.now c.key_of.result c.key_of.ensures c.requires.table.keys c.in_ok-place.place c.in_ok-place.ensures.index in
    let taken = ap (λ p. taken_over ts p c.args.request.now) place ∙ known_taken ts c.args.task c.args.request.now known in
    let shapes = c.take_over.ensures ∙ ap (λ (es : List Entry). taken_over (shapes_in es) c.in_ok-place.place c.args.request.now) c.reserve.ensures.items in
    shapes ∙ taken

pub returns-else-is_new-clause-place : goal.returns-else-is_new-clause-place
returns-else-is_new-clause-place c =
    let t = c.args.table.now in
    place_by (shapes_in t.entries.items) t.keys.keys c.args.task c.args.request.now c.key_of.result c.key_of.ensures c.requires.table.keys c.in_ok-place.place c.in_ok-place.ensures.index
