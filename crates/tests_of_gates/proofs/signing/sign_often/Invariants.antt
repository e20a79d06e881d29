use Rattle.std.proofs.Common.{◌≡◌}
use Rattle.tests_of_gates.proofs.signing.sign_often.Given as goal

abbrev pub invariant-loop-time : goal.invariant-loop-time
invariant-loop-time g l = l.signer.gate ≡ l.gate.gate
