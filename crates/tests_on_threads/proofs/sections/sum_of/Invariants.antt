use Rattle.std.specs.List.{AllByRecursion}
use Rattle.rset.specs.Sets.{rising}
use Rattle.rguard.specs.Guards.{Holding}
use Rattle.tests_on_threads.proofs.sections.sum_of.Given as goal

abbrev pub invariant-loop-l : goal.invariant-loop-l
invariant-loop-l g l = AllByRecursion (λ place. Holding l.guard.seat place) (rising l.l-iterator)
