use Rattle.std.proofs.Common.{◌≡◌, ◌∙◌, ◌<◌, take, drop, length, rules, arith, length-drop}
use Rattle.std.proofs.lemmas.Grind.{common_steps}
use Rattle.std.proofs.lemmas.List.{with_items_is, places}
use Rattle.io_ends.proofs.Taking.{HoldsTaken-more, HoldsTaken-whole}
use Rattle.io_ends.proofs.reading.read_all.Goals as goal

pub returns-then-given-eq0-clause-whole : goal.returns-then-given-eq0-clause-whole
returns-then-given-eq0-clause-whole g c =
    let filled = c.loop-filled.filled in
    let now = with_items_is c.make_room.new.bytes c.read_behind.new.buffer (search (rules, places)) in
    let room : 0 < length (drop filled c.deref_mut.result.now) =
    omega (arith, c.in_ok-make_room.ensures.room, c.deref_mut.ensures.len, length-drop filled c.deref_mut.result.now) in
    let front : c.truncate.new.self.items ≡ take filled c.loop-filled.bytes.items =
    rw (c.truncate.ensures.items, now, c.read_behind.ensures.front, c.deref_mut.ensures.value) c.make_room.ensures.front in
    HoldsTaken-whole _ _ _ c.loop-filled.bytes.items (drop filled c.deref_mut.result.now) (drop filled c.read_behind.new.buffer) filled c.in_ok-given.given c.truncate.new.self.items c.loop-filled.invariant.held c.in_ok-given.ensures.given c.if-given-eq0.true room front

pub loop-filled-preserved : goal.loop-filled-preserved
loop-filled-preserved g c =
    let filled = c.loop-filled.filled in
    let before = c.loop-filled.invariant in
    let given = c.in_ok-given.ensures.given in
    let now = with_items_is c.make_room.new.bytes c.read_behind.new.buffer (search (rules, places)) in
    let front : take filled c.read_behind.new.buffer ≡ take filled c.loop-filled.bytes.items =
    rw (c.read_behind.ensures.front, c.deref_mut.ensures.value) c.make_room.ensures.front in
    record {
      filled = omega (arith, given.fits, c.in_ok-make_room.ensures.room, c.deref_mut.ensures.len, length-drop filled c.deref_mut.result.now);
      short = c.make_room.ensures.short;
      held = rw now (HoldsTaken-more _ _ _ c.loop-filled.bytes.items (drop filled c.deref_mut.result.now) c.read_behind.new.buffer filled c.in_ok-given.given before.held front given);
      quiet = c.in_ok-given.ensures.quiet ∙ before.quiet;
    }

pub returns-then-given-eq0-clause-ended : goal.returns-then-given-eq0-clause-ended
returns-then-given-eq0-clause-ended g c = grind (arith, common_steps)

pub overflow_add-filled : goal.overflow_add-filled
overflow_add-filled g c = grind (arith, common_steps)
