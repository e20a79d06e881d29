-- What was read may be written.
use Rattle.std.proofs.Common.{ℕ, Bool, List, Result, Ok, Err}
use Rattle.std.specs.Prelude.{IfOk}
use Rattle.rtrace_form.specs.Texts.{IsTextOf}
use Rattle.rtrace_form.specs.Written.{MayBeWritten}
use Rattle.rtrace_form.specs.declared.errors.TextErr.{TextErr}
use Rattle.rtrace_form.specs.declared.fault.Code.{Code}
use Rattle.rtrace_form.proofs.written.Spelled.{spelled_may_be}
use Rattle.rtrace_write.specs.Report.{ReportFields, told_by, IsOverResources, HasItsLedgers}

pub writable : (whole : Bool) (bytes : List ℕ) (o : Result ReportFields (TextErr Code)) → IfOk o (λ r. IsTextOf whole bytes (told_by r) × IsOverResources r × HasItsLedgers r) → IfOk o (λ r. MayBeWritten (told_by r))
writable whole bytes (Ok r) h = spelled_may_be whole h.0.0 (told_by r) h.0.2
writable whole bytes (Err e) h = tt
