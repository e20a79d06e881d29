use Rattle.std.proofs.Common.{◌≡◌, length}
use Rattle.tests_on_threads.proofs.rationed.values_with.Given as goal

abbrev pub invariant-loop : goal.invariant-loop
invariant-loop l = length l.values.items ≡ l.counter
