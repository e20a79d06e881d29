use Rattle.std.proofs.Common.{◌≡◌, map}
use Rattle.std.specs.List.{range_with_len}
use Rattle.rdrill.specs.Draws.{pair}
use Rattle.rdrill.proofs.requests.drill_groups.Given as goal

abbrev pub invariant-loop-l : goal.invariant-loop-l
invariant-loop-l l = l.groups ≡ record { q = 8; groups = map pair (range_with_len 0 l.l) }
