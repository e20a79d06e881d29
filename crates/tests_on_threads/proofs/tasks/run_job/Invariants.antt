use Rattle.rguard.specs.Resting.{Rests, all_with}
use Rattle.tests_on_threads.proofs.tasks.run_job.Given as goal

abbrev pub invariant-loop : goal.invariant-loop
invariant-loop g l = Rests (all_with l.group) l.lock l.seat
