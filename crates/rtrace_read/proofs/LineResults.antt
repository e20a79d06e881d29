-- Results of taking a line.
use Rattle.std.proofs.Common.{◌≡◌}
use Rattle.std.specs.Prelude.{Result, Err}
use Rattle.rtrace_form.specs.declared.fault.Code.{Code}
use Rattle.rtrace_form.specs.declared.errors.RowErr.{RowErr}
use Rattle.rtrace_form.specs.declared.errors.RowErr.TheVariants.{Bad}

pub same_bad : {T : Type 0} {a b : Code} → ◌≡◌ {A = Result T (RowErr Code)} (Err (Bad a)) (Err (Bad b)) → a ≡ b
same_bad {T} {a} {b} e = cc
