use Rattle.std.proofs.Common.{◌≡◌, ◌+◌, ◌≤◌, ◌++◌, length, vec_capacity}
use Rattle.rset.specs.Sets.{rising}
use Rattle.rstate.specs.Shares.{absent}
use Rattle.rstate.specs.Moves.{after_changes, HaveShares, wholes_from}
use Rattle.rstate.proofs.moves.take_writes.Given as goal

abbrev pub invariant-loop-place : goal.invariant-loop-place
invariant-loop-place g l =
    HaveShares absent l.homes.items (rising l.place-iterator)
    × (length l.into.items + length (rising l.place-iterator) ≤ vec_capacity l.into)
    × (after_changes absent l.homes.items (rising l.place-iterator) ≡ after_changes absent l.initial.homes.items (rising l.fn.set))
    × (l.into.items ++ wholes_from l.homes.items (rising l.place-iterator) ≡ l.initial.into.items ++ wholes_from l.initial.homes.items (rising l.fn.set))
    × (vec_capacity l.into ≡ vec_capacity l.initial.into)
