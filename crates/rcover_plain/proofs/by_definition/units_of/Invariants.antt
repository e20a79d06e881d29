use Rattle.std.proofs.Common.{◌≡◌, ◌≤◌, ◌*◌, take}
use Rattle.std.specs.List.{sum_by}
use Rattle.rclaim.specs.declared.TheConstants.{LENGTH_LIMIT}
use Rattle.rcover_laws.specs.History.{length_in}
use Rattle.rcover_plain.proofs.by_definition.units_of.Given as goal

abbrev pub invariant-loop-c : goal.invariant-loop-c
invariant-loop-c l = record {
  sum : l.units ≡ sum_by (length_in l.events) (take l.c-index l.claims);
  small : l.units ≤ LENGTH_LIMIT * l.c-index;
}
