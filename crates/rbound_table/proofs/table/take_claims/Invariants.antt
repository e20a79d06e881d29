use Rattle.rbound_table.specs.Tables.{key_of}
use Rattle.rbound_table.proofs.TableFacts.{HasTaken}
use Rattle.rbound_table.proofs.table.take_claims.Given as goal

abbrev pub invariant-loop-at : goal.invariant-loop-at
invariant-loop-at l = HasTaken (key_of l.key) l.needs l.fn.cells l.cells l.at

abbrev pub decreases-loop-at : goal.decreases-loop-at
decreases-loop-at l = l.at
