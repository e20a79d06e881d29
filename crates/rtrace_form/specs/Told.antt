-- What a record of one word says, or its code, whatever the records before it said besides names.
use Rattle.std.specs.Prelude.{◌≡◌, ℕ, Bool, true, false, List, Some, None}
use Rattle.rset.specs.Sets.{Set}
use Rattle.rclaim.specs.Events.{IsNormalEvent}
use Rattle.rclaim.specs.declared.event.Event.{Event}
use Rattle.rclaim.specs.declared.event.Event.TheVariants.{Issue}
use Rattle.rclaim.specs.declared.request.Kind.{Kind}
use Rattle.rclaim.specs.declared.request.Kind.TheVariants.{Read, Write, Mixed, Upgrade, Nested}
use Rattle.rclaim.specs.declared.claim.Status.TheVariants.{Entitled, Satisfied}
use Rattle.rclaim.specs.declared.changes.StatusChange.{StatusChange}
use Rattle.rvalue.specs.declared.act.Act.{Act}
use Rattle.rvalue.specs.declared.act.Act.TheVariants.{Edited, Shown}
use Rattle.rvalue.specs.declared.ledger.Edit.{Edit}
use Rattle.rvalue.specs.declared.ledger.Edit.TheVariants as edit
use Rattle.rtrace_form.specs.Records.{Row}
use Rattle.rtrace_form.specs.Fields.{Names, has_form, all_counted}
use Rattle.rtrace_form.specs.Words.{fields_of}
use Rattle.rtrace_form.specs.Lines.{Line, meant_as}
use Rattle.rtrace_form.specs.Events.{request_refusal}
use Rattle.rtrace_form.specs.declared.word.Word.{Word}
use Rattle.rtrace_form.specs.declared.word.Word.TheVariants as word
use Rattle.rtrace_form.specs.declared.fault.Code.{Code}
use Rattle.rtrace_form.specs.declared.fault.Code.TheVariants.{BadField, UnknownName}
use Rattle.rtrace_form.specs.declared.event.EventTold.{EventTold}
use Rattle.rtrace_form.specs.declared.event.EventTold.TheVariants as told

-- the names in two tables
abbrev pub names_by : List (List ℕ) → List (List ℕ) → Names
names_by resources tasks = record { resources = resources; tasks = tasks }

-- a record has the fields of this word
abbrev pub IsOf : Word → Row → Type 0
IsOf w row = has_form (fields_of w) row ≡ true

-- a record of this word says this line by these names, and each of its numbers is a number
pub record Says (names : Names) (w : Word) (row : Row) (line : Line) : Type 0 where
  pub counted : all_counted (fields_of w) row ≡ true
  pub meant : meant_as names row (Some w) ≡ Some line

-- a record of this word names something that is not declared, and each of its numbers is a number
pub record IsUnknown (names : Names) (w : Word) (row : Row) : Type 0 where
  pub counted : all_counted (fields_of w) row ≡ true
  pub meant : meant_as names row (Some w) ≡ None

-- this is wrong with a record of this word, whatever comes before it: one of its numbers is not a number, or else one of its names is not declared
abbrev pub IsWrong : Names → Word → Row → Code → Type 0
IsWrong names w row BadField = all_counted (fields_of w) row ≡ false
IsWrong names w row UnknownName = IsUnknown names w row
IsWrong names w row _ = ⊥

-- a word of an event
abbrev pub is_event : Word → Bool
is_event (word.Issue kind) = true
is_event word.Finish = true
is_event word.Rise = true
is_event word.Ask = true
is_event _ = false

-- a kind of request whose record has one set and one length
abbrev pub is_plain : Kind → Bool
is_plain Read = true
is_plain Write = true
is_plain Mixed = false
is_plain Upgrade = false
is_plain Nested = false

-- a word of an act
abbrev pub is_act : Word → Bool
is_act word.Show = true
is_act (word.Add done) = true
is_act (word.Take done) = true
is_act (word.Put done) = true
is_act _ = false

-- a word of a change of a status
abbrev pub is_status : Word → Bool
is_status (word.Entitled write_half) = true
is_status (word.Satisfied write_half) = true
is_status _ = false

-- a word of a wait
abbrev pub is_wait : Word → Bool
is_wait (word.Wait which) = true
is_wait _ = false

-- the answer is this event, in normal form; or its request is refused whatever read groups are declared
abbrev pub IsTold : EventTold → Event → Type 0
IsTold (told.Event e) x = (x ≡ e) × IsNormalEvent e
IsTold (told.Refused cause) (Issue seat r) = (groups : List Set) → request_refusal groups r ≡ Some cause
IsTold (told.Refused cause) _ = ⊥

-- the act that a record of this word reports for a resource and a number
abbrev pub act_by : Word → ℕ → ℕ → Act Edit
act_by (word.Add done) place number = Edited place (edit.Add number) done
act_by (word.Take done) place number = Edited place (edit.Take number) done
act_by (word.Put done) place number = Edited place (edit.Set number) done
act_by _ place number = Shown place number

-- the change of status that a record of this word reports for a seat
abbrev pub change_by : Word → ℕ → StatusChange
change_by (word.Entitled write_half) seat = record { seat = seat; write_half = write_half; status = Entitled }
change_by (word.Satisfied write_half) seat = record { seat = seat; write_half = write_half; status = Satisfied }
change_by _ seat = record { seat = seat; write_half = false; status = Satisfied }
