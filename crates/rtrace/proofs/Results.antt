-- Results of the takers.
use Rattle.std.proofs.Common.{◌≡◌, ap, subst}
use Rattle.std.specs.Prelude.{Result, Ok, Err, OnOk, IfOk, IfErr, IsErrOf}
use Rattle.rtrace_form.specs.declared.fault.Code.{Code}
use Rattle.rtrace_form.specs.declared.fault.Fault.{Fault}
use Rattle.rtrace_form.specs.declared.errors.TextErr.{TextErr}
use Rattle.rtrace_form.specs.declared.errors.TextErr.TheVariants as text
use Rattle.rtrace.specs.Errors.{IsOfText}
use Rattle.rtrace.specs.declared.error.StreamErr.{StreamErr}
use Rattle.rtrace.specs.declared.error.StreamErr.TheVariants as stream

-- what holds at `Ok` follows from what holds there
pub if_ok : {T E : Type 0} (r : Result T E) (P Q : T → Type 0) → IfOk r P → ((x : T) → P x → Q x) → IfOk r Q
if_ok (Ok x) P Q p f = f x p
if_ok (Err e) P Q p f = tt

pub on_ok : {T E : Type 0} (r : Result T E) (P Q : Type 0) → OnOk r P → (P → Q) → OnOk r Q
on_ok (Ok x) P Q p f = f p
on_ok (Err e) P Q p f = tt

pub same_error : {T U : Type 0} {e f : TextErr Code} → ◌≡◌ {A = Result T (TextErr Code)} (Err e) (Err f) → ◌≡◌ {A = Result U (TextErr Code)} (Err e) (Err f)
same_error {T} {U} {e} {f} h = let same : e ≡ f = cc in ap (λ (x : TextErr Code). let r : Result U (TextErr Code) = Err x in r) same

-- the fault that is answered
pub bad_is : {T : Type 0} {a b : Fault Code} → ◌≡◌ {A = Result T (TextErr Code)} (Err (text.Bad a)) (Err (text.Bad b)) → a ≡ b
bad_is {T} {a} {b} e = cc

pub stream_bad_is : {T : Type 0} {a b : Fault Code} → ◌≡◌ {A = Result T (StreamErr Code)} (Err (stream.Bad a)) (Err (stream.Bad b)) → a ≡ b
stream_bad_is {T} {a} {b} e = cc

-- what is of the text is no failure of the source, and no text that is too long
pub no_read_fault : {T : Type 0} (r : Result T (StreamErr Code)) → IfErr r IsOfText → IsErrOf r stream.ReadFault → ⊥
no_read_fault {T = T} r of is = subst (λ (x : Result T (StreamErr Code)). IfErr x IsOfText) is of

pub not_too_long : {T : Type 0} (r : Result T (StreamErr Code)) → IfErr r IsOfText → IsErrOf r stream.TooLong → ⊥
not_too_long {T = T} r of is = subst (λ (x : Result T (StreamErr Code)). IfErr x IsOfText) is of
