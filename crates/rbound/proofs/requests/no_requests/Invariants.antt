use Rattle.std.proofs.Common.{◌≡◌, length}
use Rattle.rbound.specs.TaskNeeds.{none_needed}
use Rattle.rbound.specs.Kept.{tasks_in}
use Rattle.rbound.proofs.requests.no_requests.Given as goal

abbrev pub invariant-loop : goal.invariant-loop
invariant-loop l = (tasks_in l.made.items ≡ none_needed l.counter) × (length l.made.items ≡ l.counter)
