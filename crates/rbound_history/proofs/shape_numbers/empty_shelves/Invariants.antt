use Rattle.rbound_history.proofs.ShelfFacts.{AreEmpty}
use Rattle.rbound_history.proofs.shape_numbers.empty_shelves.Given as goal

abbrev pub invariant-loop : goal.invariant-loop
invariant-loop l = AreEmpty l.counter l.shelves.items
