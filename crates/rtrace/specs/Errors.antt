-- Errors of sources.
use Rattle.std.specs.Prelude.{◌≡◌, ◌≤◌, ◌+◌, ℕ, List, length, Option}
use Rattle.io_ends.specs.declared.reading.ReadErr.{ReadErr}
use Rattle.io_ends.specs.declared.reading.ReadErr.TheVariants as read
use Rattle.rtrace_form.specs.declared.errors.TextErr.{TextErr}
use Rattle.rtrace_form.specs.declared.errors.TextErr.TheVariants as text
use Rattle.rtrace.specs.Coming.{Came}
use Rattle.rtrace.specs.declared.error.StreamErr.{StreamErr}
use Rattle.rtrace.specs.declared.error.StreamErr.TheVariants as stream

-- the error of a source that was not read to its end
abbrev pub error_of : {C : Type 0} → ReadErr → StreamErr C
error_of read.ReadFault = stream.ReadFault
error_of read.TooLong = stream.TooLong
error_of read.Memory = stream.Memory

-- the error of a source whose text was not taken
abbrev pub text_error_of : {C : Type 0} → TextErr C → StreamErr C
text_error_of (text.Bad fault) = stream.Bad fault
text_error_of text.Memory = stream.Memory

-- a text was read to its end, and has a fault
abbrev pub IsBad : {C : Type 0} → StreamErr C → Type 0
IsBad stream.ReadFault = ⊥
IsBad stream.TooLong = ⊥
IsBad (stream.Bad fault) = Unit {0}
IsBad stream.Memory = ⊥

-- the error is of the text, or out of memory
abbrev pub IsOfText : {C : Type 0} → StreamErr C → Type 0
IsOfText stream.ReadFault = ⊥
IsOfText stream.TooLong = ⊥
IsOfText (stream.Bad fault) = Unit {0}
IsOfText stream.Memory = Unit {0}

-- the error is of the source
abbrev pub IsOfSource : {C : Type 0} → StreamErr C → Type 0
IsOfSource stream.ReadFault = Unit {0}
IsOfSource stream.TooLong = Unit {0}
IsOfSource (stream.Bad fault) = ⊥
IsOfSource stream.Memory = ⊥

-- so many bytes came where a limit holds: one more than the limit where the source had too many, and else no more than the limit
abbrev pub StreamCameOf : {C : Type 0} → StreamErr C → ℕ → ℕ → Type 0
StreamCameOf stream.TooLong taken limit = taken ≡ limit + 1
StreamCameOf stream.ReadFault taken limit = taken ≤ limit
StreamCameOf (stream.Bad fault) taken limit = taken ≤ limit
StreamCameOf stream.Memory taken limit = taken ≤ limit

-- bytes came after so many others, and then this error
abbrev pub StreamBreaksOff : {C : Type 0} → StreamErr C → Option (List ℕ) → Option (List ℕ) → ℕ → ℕ → Type 0
StreamBreaksOff e before after taken limit = (piece : List ℕ) × Came before after piece × StreamCameOf e (taken + length piece) limit
