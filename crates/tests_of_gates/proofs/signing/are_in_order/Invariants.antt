use Rattle.std.proofs.Common.{◌≡◌, ℕ, ◌<◌}
use Rattle.std.specs.Prelude.{slice_index_or}
use Rattle.rlock.specs.Known.{Known}
use Rattle.rlock.specs.declared.roll.Roll.{Roll}
use Rattle.rlock.specs.declared.roll.Signature.{Signature}
use Rattle.tests_of_gates.proofs.signing.are_in_order.Given as goal

abbrev pub invariant-loop-k : goal.invariant-loop-k
invariant-loop-k l = (k : ℕ) (d : Known Roll ℕ Signature) → k < l.k → (slice_index_or l.passes k d).number ≡ k
