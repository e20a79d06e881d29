use Rattle.std.proofs.Common.{◌≡◌, length, vec_capacity}
use Rattle.std.specs.List.{AllByRecursion}
use Rattle.rset.specs.declared.TheConstants.{SEATS}
use Rattle.rcover.specs.Kept.{HasRoom}
use Rattle.rcover.specs.Follows.{IsEmpty}
use Rattle.rcover.proofs.following.new_runs.Given as goal

abbrev pub invariant-loop : goal.invariant-loop
invariant-loop l = record {
  len : length l.runs.items ≡ l.counter;
  room : AllByRecursion HasRoom l.runs.items;
  none : AllByRecursion IsEmpty l.runs.items;
  capacity : vec_capacity l.runs ≡ SEATS;
}
