use Rattle.std.proofs.Common.{◌≡◌, ◌≤◌, take, map, length, vec_capacity}
use Rattle.std.specs.Arc.{arc_value}
use Rattle.rrun.proofs.reporting.ledgers_of.Given as goal

abbrev pub invariant-loop-value : goal.invariant-loop-value
invariant-loop-value l = (l.ledgers.items ≡ map arc_value (take l.value-index l.values)) × (length l.values ≤ vec_capacity l.ledgers)
