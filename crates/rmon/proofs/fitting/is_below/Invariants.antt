use Rattle.std.proofs.Common.{◌≡◌, nat_lt}
use Rattle.std.specs.List.{list_all}
use Rattle.rset.specs.Sets.{rising}
use Rattle.rmon.proofs.fitting.is_below.Given as goal

abbrev pub invariant-loop-l : goal.invariant-loop-l
invariant-loop-l l = list_all (λ m. nat_lt m l.q) (rising l.l-iterator) ≡ list_all (λ m. nat_lt m l.q) (rising l.fn.set)
