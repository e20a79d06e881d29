use Rattle.std.proofs.Common.{◌≡◌, ◌+◌, ◌≤◌, ◌++◌, map, length, vec_capacity}
use Rattle.std.specs.Vec.Iter.{into_iter_items}
use Rattle.rrun.proofs.run.seats_of.Given as goal

abbrev pub invariant-loop-ended : goal.invariant-loop-ended
invariant-loop-ended g l =
    (length l.seats.items + length (into_iter_items l.ended-iterator) ≤ vec_capacity l.seats)
    × (l.seats.items ++ map (λ ended. ended.seat) (into_iter_items l.ended-iterator) ≡ map (λ ended. ended.seat) l.fn.all.items)
