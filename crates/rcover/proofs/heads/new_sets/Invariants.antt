use Rattle.std.proofs.Common.{◌≡◌, length, replicate, vec_capacity}
use Rattle.rset.specs.declared.TheConstants.{SEATS}
use Rattle.std.specs.FinSet.{empty}
use Rattle.rcover.proofs.heads.new_sets.Given as goal

abbrev pub invariant-loop : goal.invariant-loop
invariant-loop l = record {
  sets : l.sets.items ≡ replicate l.counter empty;
  len : length l.sets.items ≡ l.counter;
  capacity : vec_capacity l.sets ≡ SEATS;
}
