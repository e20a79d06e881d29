use Rattle.std.proofs.Common.{◌≡◌}
use Rattle.rset.specs.declared.TheConstants.{RESOURCES}
use Rattle.tests_of_rules.proofs.groups.is_filled.Given as goal

abbrev pub invariant-loop : goal.invariant-loop
invariant-loop l = l.groups.q ≡ RESOURCES
