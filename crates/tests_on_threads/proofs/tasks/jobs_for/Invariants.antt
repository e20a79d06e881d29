use Rattle.std.specs.Prelude.{All, IsSomeAnd}
use Rattle.rguard.specs.Resting.{Rests, all_with}
use Rattle.tests_on_threads.proofs.tasks.jobs_for.Given as goal

abbrev pub invariant-loop-seat : goal.invariant-loop-seat
invariant-loop-seat g l = All (λ j. IsSomeAnd j.seat (Rests (all_with l.fn.group) l.lock)) l.jobs.items
