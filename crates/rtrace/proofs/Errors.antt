-- Errors of sources.
use Rattle.std.proofs.Common.{◌≡◌, refl}
use Rattle.std.specs.Prelude.{◌≢◌, Result, Ok, Err, IfErr}
use Rattle.rtrace_form.specs.declared.errors.TextErr.{TextErr}
use Rattle.rtrace_form.specs.declared.errors.TextErr.TheVariants as text
use Rattle.rtrace_form.specs.declared.fault.Fault.{Fault}
use Rattle.rtrace.specs.Errors.{text_error_of, IsOfText, IsOfSource}
use Rattle.rtrace.specs.declared.error.StreamErr.{StreamErr}
use Rattle.rtrace.specs.declared.error.StreamErr.TheVariants as stream

-- a fault of a source is that of its text
pub bad_text : {C : Type 0} (e : TextErr C) (fault : Fault C) → text_error_of e ≡ stream.Bad fault → e ≡ text.Bad fault
bad_text (text.Bad other) fault is = cc
bad_text text.Memory fault is = cc

-- an error that is not out of memory is a fault
pub is_fault : {C : Type 0} (e : TextErr C) → e ≢ text.Memory → (fault : Fault C) × (e ≡ text.Bad fault)
is_fault (text.Bad fault) other = (fault, refl)
is_fault text.Memory other = absurd (other refl)

-- no error is of a text and of a source
apart : {C P : Type 0} (e : StreamErr C) → IsOfText e → IsOfSource e → P
apart stream.ReadFault text source = absurd text
apart stream.TooLong text source = absurd text
apart (stream.Bad fault) text source = absurd source
apart stream.Memory text source = absurd source

-- where each error is of a text, anything follows from one of a source
pub none_of_source : {U C : Type 0} (P : Type 0) (r : Result U (StreamErr C)) → IfErr r IsOfText → IfErr r (λ e. IsOfSource e → P)
none_of_source P (Ok u) h = tt
none_of_source P (Err e) h = apart e h
