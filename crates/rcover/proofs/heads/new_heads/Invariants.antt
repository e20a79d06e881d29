use Rattle.std.proofs.Common.{◌≡◌, length, replicate, vec_capacity}
use Rattle.rset.specs.declared.TheConstants.{SEATS}
use Rattle.rcover.specs.Lines.{no_head}
use Rattle.rcover.proofs.heads.new_heads.Given as goal

abbrev pub invariant-loop : goal.invariant-loop
invariant-loop l = record {
  heads : l.heads.items ≡ replicate l.counter no_head;
  len : length l.heads.items ≡ l.counter;
  capacity : vec_capacity l.heads ≡ SEATS;
}
