use Rattle.std.proofs.Common.{◌≡◌, length}
use Rattle.std.specs.Vec.Iter.{drain_items}
use Rattle.rstate.specs.Moves.{HaveHomes, after_wholes}
use Rattle.rstate.proofs.moves.give_writes.Given as goal

abbrev pub invariant-loop-whole : goal.invariant-loop-whole
invariant-loop-whole g l =
    HaveHomes (length l.homes.items) (drain_items l.whole-iterator)
    × (after_wholes l.homes.items (drain_items l.whole-iterator) ≡ after_wholes l.initial.homes.items l.fn.wholes.items)
