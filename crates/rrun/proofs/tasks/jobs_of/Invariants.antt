use Rattle.std.proofs.Common.{◌≡◌, ◌+◌, ◌≤◌, ◌++◌, map, length, vec_capacity}
use Rattle.std.specs.Vec.Iter.{into_iter_items}
use Rattle.rrun.specs.Endings.{waiting}
use Rattle.rrun.proofs.tasks.jobs_of.Given as goal

abbrev pub invariant-loop-seat : goal.invariant-loop-seat
invariant-loop-seat g l =
    (length l.jobs.items + length (into_iter_items l.seat-iterator) ≤ vec_capacity l.jobs)
    × (l.jobs.items ++ map waiting (into_iter_items l.seat-iterator) ≡ map waiting l.fn.seats.items)
