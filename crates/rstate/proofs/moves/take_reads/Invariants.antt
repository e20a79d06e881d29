use Rattle.std.proofs.Common.{◌≡◌, ◌+◌, ◌≤◌, ◌++◌, length, vec_capacity}
use Rattle.rset.specs.Sets.{rising}
use Rattle.rstate.specs.Shares.{less}
use Rattle.rstate.specs.Moves.{after_changes, HaveShares, loans_from}
use Rattle.rstate.proofs.moves.take_reads.Given as goal

abbrev pub invariant-loop-place : goal.invariant-loop-place
invariant-loop-place g l =
    HaveShares less l.homes.items (rising l.place-iterator)
    × (length l.into.items + length (rising l.place-iterator) ≤ vec_capacity l.into)
    × (after_changes less l.homes.items (rising l.place-iterator) ≡ after_changes less l.initial.homes.items (rising l.fn.set))
    × (l.into.items ++ loans_from l.homes.items (rising l.place-iterator) ≡ l.initial.into.items ++ loans_from l.initial.homes.items (rising l.fn.set))
    × (vec_capacity l.into ≡ vec_capacity l.initial.into)
