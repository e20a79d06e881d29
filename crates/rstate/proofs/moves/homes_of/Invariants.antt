use Rattle.std.proofs.Common.{◌≡◌, ◌≤◌, map, take, length, vec_capacity}
use Rattle.rstate.specs.Shares.{whole}
use Rattle.rstate.proofs.moves.homes_of.Given as goal

abbrev pub invariant-loop-value : goal.invariant-loop-value
invariant-loop-value g l =
    (length l.homes.items ≡ l.value-index)
    × (length l.values ≤ vec_capacity l.homes)
    × (l.homes.items ≡ map (whole l.n) (take l.value-index l.values))
