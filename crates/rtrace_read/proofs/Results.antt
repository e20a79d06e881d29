-- Results of taking a record.
use Rattle.std.proofs.Common.{◌≡◌, ap}
use Rattle.std.specs.Prelude.{Result, Err}
use Rattle.rclaim.specs.declared.event.Event.{Event}
use Rattle.rtrace_form.specs.declared.fault.Code.{Code}
use Rattle.rtrace_form.specs.declared.errors.RowErr.{RowErr}
use Rattle.rtrace_form.specs.declared.errors.RowErr.TheVariants.{Bad}
use Rattle.rtrace_read.specs.declared.taken.TakenRecord.TheVariants as taken

-- an error is the same, whatever is answered with it
pub same_err : {T U : Type 0} {e : RowErr Code} {code : Code} → ◌≡◌ {A = Result T (RowErr Code)} (Err e) (Err (Bad code)) → ◌≡◌ {A = Result U (RowErr Code)} (Err e) (Err (Bad code))
same_err {T} {U} {e} {code} h = let same : e ≡ Bad code = cc in ap (λ (x : RowErr Code). let r : Result U (RowErr Code) = Err x in r) same

-- what was taken is the same event
pub same_event : {e f : Event} → taken.Event e ≡ taken.Event f → e ≡ f
same_event {e} {f} is = cc
