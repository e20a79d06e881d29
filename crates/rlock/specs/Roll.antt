-- The signatures of a roll.
use Rattle.std.specs.Prelude.{ℕ}
use Rattle.rlock.specs.declared.roll.Signature.{Signature}

abbrev pub signature : ℕ → ℕ → Signature
signature pass time = record { pass = pass; time = time }
