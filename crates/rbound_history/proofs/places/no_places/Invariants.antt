use Rattle.std.proofs.Common.{◌≡◌, [], length, replicate}
use Rattle.rbound_history.specs.Places.{lists_in}
use Rattle.rbound_history.proofs.places.no_places.Given as goal

abbrev pub invariant-loop : goal.invariant-loop
invariant-loop l = (lists_in l.places.items ≡ replicate l.counter []) × (length l.places.items ≡ l.counter)
