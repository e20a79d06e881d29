use Rattle.std.proofs.Common.{◌≡◌, ◌+◌, ◌≤◌, ◌++◌, map, length, vec_capacity}
use Rattle.std.specs.Prelude.{All, IsSome}
use Rattle.std.specs.Vec.Iter.{into_iter_items}
use Rattle.rrun.specs.Endings.{resting}
use Rattle.rrun.proofs.tasks.ended_of.Given as goal

abbrev pub invariant-loop-job : goal.invariant-loop-job
invariant-loop-job g l =
    All (λ job. IsSome job.seat) (into_iter_items l.job-iterator)
    × (length l.ended.items + length (into_iter_items l.job-iterator) ≤ vec_capacity l.ended)
    × (map resting l.ended.items ++ into_iter_items l.job-iterator ≡ l.fn.jobs.items)
