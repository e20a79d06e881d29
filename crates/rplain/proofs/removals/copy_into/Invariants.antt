use Rattle.std.proofs.Common.{◌≡◌, length, vec_capacity}
use Rattle.rplain.proofs.removals.copy_into.Given as goal

abbrev pub invariant-loop-i : goal.invariant-loop-i
invariant-loop-i l = record {
  as_long : length l.to.items ≡ l.i;
  capacity : vec_capacity l.to ≡ vec_capacity l.initial.to;
}
