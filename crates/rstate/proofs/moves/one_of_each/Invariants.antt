use Rattle.std.proofs.Common.{◌≡◌, ◌+◌, ◌<◌, ◌≤◌, ◌++◌, map, length, vec_capacity}
use Rattle.std.specs.Arc.{arc_value}
use Rattle.std.specs.List.{AllByRecursion}
use Rattle.std.specs.Vec.Iter.{into_iter_items}
use Rattle.rstate.proofs.moves.one_of_each.Given as goal

abbrev pub invariant-loop-home : goal.invariant-loop-home
invariant-loop-home g l =
    AllByRecursion (λ home. 0 < home.count) (into_iter_items l.home-iterator)
    × (length l.given.items + length (into_iter_items l.home-iterator) ≤ vec_capacity l.given)
    × (map arc_value l.given.items ++ map (λ home. home.value) (into_iter_items l.home-iterator) ≡ map (λ home. home.value) l.fn.homes.items)
