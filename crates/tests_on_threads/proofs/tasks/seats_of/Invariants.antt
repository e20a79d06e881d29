use Rattle.std.specs.Prelude.{All}
use Rattle.rguard.specs.Resting.{Rests, all_with}
use Rattle.tests_on_threads.proofs.tasks.seats_of.Given as goal

abbrev pub invariant-loop-job : goal.invariant-loop-job
invariant-loop-job g l = All (Rests (all_with l.fn.group) l.lock) l.seats.items
