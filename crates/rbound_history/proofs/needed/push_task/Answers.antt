use Rattle.std.proofs.Common.{rules, IsTrue, slice_index_or, ap, ◌∙◌, arith}
use Rattle.rbound_history.specs.ShapeNeeds.{requests_of_shapes}
use Rattle.rbound_history.specs.Kept.{shape_in, shapes_in, may_ask}
use Rattle.rbound_history.proofs.ShapeRequests.{request_of}
use Rattle.rbound_history.proofs.Gathering.{puts_none, puts_more, puts_all, puts_within, of_entry, below_entry, shape_is}
use Rattle.rbound_history.proofs.TaskPlaces.{found, found_within, as_many_requests, entry_shape}
use Rattle.rbound_history.proofs.needed.push_task.Goals as goal

pub loop-place-init : goal.loop-place-init
loop-place-init c = puts_none c.args.needs.now c.args.task (requests_of_shapes (shapes_in c.args.entries.now) c.args.task)

pub offset_bounds-entries-place : goal.offset_bounds-entries-place
offset_bounds-entries-place c =
    let within = found_within c.args.entries.now c.args.task c.args.places.now c.loop-place.place-index c.requires.places c.loop-place-test.true in
    search rules

pub bounds-entries-place : goal.bounds-entries-place
bounds-entries-place c = found_within c.args.entries.now c.args.task c.args.places.now c.loop-place.place-index c.requires.places c.loop-place-test.true

pub push_shape-requires-clause-task : goal.push_shape-requires-clause-task
push_shape-requires-clause-task c =
    let es = c.args.entries.now in
    let at = found (shapes_in es) c.args.task c.args.places.now c.loop-place.place-index c.requires.places c.loop-place-test.true in
    let within = puts_within c.args.needs.now c.loop-place.needs c.args.task (requests_of_shapes (shapes_in es) c.args.task) c.loop-place.place-index c.requires.task c.loop-place.invariant in
    let entry = entry_shape es (slice_index_or c.args.places.now c.loop-place.place-index 0) c.index-entries-place.result at.shape at.there c.index-entries-place.is in
    omega (arith, within, at.of, ap (λ s. s.task) entry)

pub push_shape-requires-clause-reads : goal.push_shape-requires-clause-reads
push_shape-requires-clause-reads c =
    let es = c.args.entries.now in
    let within = found_within es c.args.task c.args.places.now c.loop-place.place-index c.requires.places c.loop-place-test.true in
    (below_entry c.args.needs.now c.loop-place.needs c.args.task (requests_of_shapes (shapes_in es) c.args.task) c.loop-place.place-index es (slice_index_or c.args.places.now c.loop-place.place-index 0) c.index-entries-place.result c.requires.below within
    c.index-entries-place.is c.loop-place.invariant).0

pub push_shape-requires-clause-writes : goal.push_shape-requires-clause-writes
push_shape-requires-clause-writes c =
    let es = c.args.entries.now in
    let within = found_within es c.args.task c.args.places.now c.loop-place.place-index c.requires.places c.loop-place-test.true in
    (below_entry c.args.needs.now c.loop-place.needs c.args.task (requests_of_shapes (shapes_in es) c.args.task) c.loop-place.place-index es (slice_index_or c.args.places.now c.loop-place.place-index 0) c.index-entries-place.result c.requires.below within
    c.index-entries-place.is c.loop-place.invariant).1

pub push_shape-requires-clause-asks : goal.push_shape-requires-clause-asks
push_shape-requires-clause-asks c =
    let es = c.args.entries.now in
    let within = found_within es c.args.task c.args.places.now c.loop-place.place-index c.requires.places c.loop-place-test.true in
    of_entry (λ s. IsTrue (may_ask s)) es (slice_index_or c.args.places.now c.loop-place.place-index 0) c.index-entries-place.result c.requires.asks within c.index-entries-place.is

pub loop-place-preserved : goal.loop-place-preserved
loop-place-preserved c =
    let es = c.args.entries.now in
    let rs = requests_of_shapes (shapes_in es) c.args.task in
    let at = found (shapes_in es) c.args.task c.args.places.now c.loop-place.place-index c.requires.places c.loop-place-test.true in
    let entry = entry_shape es (slice_index_or c.args.places.now c.loop-place.place-index 0) c.index-entries-place.result at.shape at.there c.index-entries-place.is in
    let less = as_many_requests (shapes_in es) c.args.task c.args.places.now c.requires.places in
    puts_more c.args.needs.now c.loop-place.needs c.push_shape.new.needs c.args.task rs c.loop-place.place-index (request_of at.shape) (omega (arith, less, c.loop-place-test.true)) at.put c.loop-place.invariant
    (c.in_ok-push_shape.ensures ∙ shape_is c.loop-place.needs c.args.task (shape_in c.index-entries-place.result) at.shape entry at.of)

pub returns : goal.returns
returns c =
    let es = c.args.entries.now in
    let rs = requests_of_shapes (shapes_in es) c.args.task in
    let many = as_many_requests (shapes_in es) c.args.task c.args.places.now c.requires.places in
    puts_all c.args.needs.now c.loop-place.needs c.args.task rs c.loop-place.place-index (omega (arith, many, c.loop-place-test.false)) c.loop-place.invariant
