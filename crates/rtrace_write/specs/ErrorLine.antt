-- The line of a fault.
use Rattle.std.specs.Prelude.{ℕ, List, [], ◌∷◌, codes, decimal}
use Rattle.rclaim.specs.declared.request.RequestErr.TheVariants as cause
use Rattle.rmodel.specs.declared.refused.Refused.TheVariants as refused
use Rattle.rtrace_form.specs.Records.{Row}
use Rattle.rtrace_form.specs.Texts.{line_text}
use Rattle.rtrace_form.specs.declared.fault.Code.{Code}
use Rattle.rtrace_form.specs.declared.fault.Code.TheVariants.{BadField, UnknownName, BadOrder, Refused, WrongChange, WrongShow, WrongLedger, NoEnd, WrongBound}
use Rattle.rtrace_form.specs.declared.fault.Refusal.{Refusal}
use Rattle.rtrace_form.specs.declared.fault.Refusal.TheVariants.{Request, Step}
use Rattle.rtrace_form.specs.declared.fault.Fault.{Fault}

-- the number of a refusal: those of the lock come first, then those of a request
abbrev pub refusal_number : Refusal → ℕ
refusal_number (Step refused.SeatBusy) = 1
refusal_number (Step refused.Full) = 2
refusal_number (Step refused.NotHolding) = 3
refusal_number (Step refused.NotUpgradeable) = 4
refusal_number (Step refused.NotNested) = 5
refusal_number (Step refused.AskOutside) = 6
refusal_number (Request cause.EmptyRequest) = 7
refusal_number (Request cause.Undeclared) = 8
refusal_number (Request cause.FirstOutside) = 9

-- the number of a code
abbrev pub code_number : Code → ℕ
code_number BadField = 1
code_number UnknownName = 2
code_number BadOrder = 3
code_number (Refused refusal) = 4
code_number WrongChange = 5
code_number WrongShow = 6
code_number WrongLedger = 7
code_number NoEnd = 8
code_number WrongBound = 9

-- the fields after the code: for a refused event the number of the refusal
abbrev pub refusal_fields : Code → Row
refusal_fields (Refused refusal) = decimal (refusal_number refusal) ∷ []
refusal_fields BadField = []
refusal_fields UnknownName = []
refusal_fields BadOrder = []
refusal_fields WrongChange = []
refusal_fields WrongShow = []
refusal_fields WrongLedger = []
refusal_fields NoEnd = []
refusal_fields WrongBound = []

-- the line that is written of an input with this fault
abbrev pub error_line : Fault Code → List ℕ
error_line fault = line_text (codes "error" ∷ decimal fault.line ∷ decimal (code_number fault.code) ∷ refusal_fields fault.code)
