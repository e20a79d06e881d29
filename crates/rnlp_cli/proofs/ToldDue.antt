-- The line reported as due is due where the report has its first fault.
use Rattle.std.proofs.Common.{◌≡◌, ◌≢◌, ℕ, true, List, [], ◌∷◌, ◌++◌, Option, Some, None, refl, ap, subst, ◌∙◌}
use Rattle.std.specs.Prelude.{IfSome}
use Rattle.rtrace_form.specs.Faults.{read_all}
use Rattle.rtrace_form.specs.Records.{Row}
use Rattle.rtrace_form.specs.SoFar.{SoFar}
use Rattle.rtrace_form.specs.Takers.{IsFirstFault, IsLeftBy, StandsAt}
use Rattle.rtrace_form.specs.declared.fault.Code.{Code}
use Rattle.rtrace_form.specs.declared.fault.Code.TheVariants.{BadField, UnknownName, BadOrder, Refused, WrongChange, WrongShow, WrongLedger, NoEnd, WrongBound}
use Rattle.rtrace_form.specs.declared.fault.Fault.{Fault}
use Rattle.rtrace.specs.Coming.{CameWhole}
use Rattle.rtrace_replay.specs.Knows.{Knows}
use Rattle.rtrace_replay.specs.LineTakes.{StillDue}
use Rattle.rtrace_replay.specs.ReportReader.{ReportReader}
use Rattle.rtrace_replay.proofs.Still.{same_still}
use Rattle.rtrace_replay.specs.Names.{names_read}
use Rattle.rtrace.specs.Collects.{KnowsCount, CountStays}
use Rattle.rtrace.specs.declared.count.Counting.{Counting}
use Rattle.rnlp_cli.specs.Due.{IsDueAt, IsDueFor, first_due_text}
use Rattle.rnlp_cli.specs.Told.{IsFaultTold, told_due, told_fault}
use Rattle.rnlp_cli.specs.declared.command.Command.TheVariants.{Audit}
use Rattle.rnlp_cli.specs.declared.explained.Told.{Told}

left_still : (behind : List Row) (was now : Counting) → IsLeftBy CountStays behind was now → StillDue was.reading now.reading
left_still [] was now same = same_still was.reading now.reading (ap (λ (c : Counting). c.reading) same)
left_still (refused ∷ rest) was now stays = stays.0

-- names that begin with those of a reader begin with the names that were said
longer : (read said all : List (List ℕ)) → read ≡ said → (more : List (List ℕ)) × (all ≡ read ++ more) → (more : List (List ℕ)) × (all ≡ said ++ more)
longer read said all same h = (h.0, h.1 ∙ ap (λ (front : List (List ℕ)). front ++ h.0) same)

-- the first line that is due for a reader is due where its report has its fault, also if there is none
pub due_at : (bytes : List ℕ) (fault : Fault Code) (counting : Counting) (line : Option (List ℕ)) → StandsAt KnowsCount CountStays bytes fault.line counting
    → ((was : ReportReader) (s : SoFar) → Knows true was s → StillDue was counting.reading → first_due_text (names_read counting.reading) s fault.code ≡ line) → IsDueAt bytes fault line
due_at bytes fault counting line at first =
    let said = at.knows.knows in
    let still = left_still at.behind at.was counting at.left in
    record {
      before = at.before;
      behind = at.behind;
      are = at.are;
      counted = at.counted;
      names = names_read counting.reading;
      declared = record { resources = longer at.was.reading.resources (read_all true at.before).resources counting.reading.resources said.resources still.resources; tasks = longer at.was.reading.tasks (read_all true at.before).tasks counting.reading.tasks said.tasks still.tasks };
      first = first at.was.reading (read_all true at.before) said still;
    }

-- what is due of the kind that the fault is about; nothing if it is about neither
due_for : (bytes : List ℕ) (fault : Fault Code) (line : Option (List ℕ)) → (fault.code ≡ WrongChange → IsDueAt bytes fault line) → (fault.code ≡ WrongLedger → IsDueAt bytes fault line)
    → (fault.code ≢ WrongChange → fault.code ≢ WrongLedger → line ≡ None) → IsDueFor fault.code bytes fault line
due_for bytes fault line = at fault.code
  where
    at : (code : Code) → (code ≡ WrongChange → IsDueAt bytes fault line) → (code ≡ WrongLedger → IsDueAt bytes fault line) → (code ≢ WrongChange → code ≢ WrongLedger → line ≡ None)
        → IsDueFor code bytes fault line
    at WrongChange change ledger other = change refl
    at WrongLedger change ledger other = ledger refl
    at BadField change ledger other = other (λ e. cc) (λ e. cc)
    at UnknownName change ledger other = other (λ e. cc) (λ e. cc)
    at BadOrder change ledger other = other (λ e. cc) (λ e. cc)
    at (Refused cause) change ledger other = other (λ e. cc) (λ e. cc)
    at WrongShow change ledger other = other (λ e. cc) (λ e. cc)
    at NoEnd change ledger other = other (λ e. cc) (λ e. cc)
    at WrongBound change ledger other = other (λ e. cc) (λ e. cc)

-- the same for what the source had left
pub due_told : (left after : Option (List ℕ)) (fault : Fault Code) (line : Option (List ℕ))
    → (fault.code ≡ WrongChange → (text : List ℕ) × CameWhole left after text × IsDueAt text fault line)
    → (fault.code ≡ WrongLedger → (text : List ℕ) × CameWhole left after text × IsDueAt text fault line)
    → (fault.code ≢ WrongChange → fault.code ≢ WrongLedger → line ≡ None) → IfSome left (λ all. IsDueFor fault.code all fault line)
due_told None after fault line change ledger other = tt
due_told (Some all) after fault line change ledger other =
    due_for all fault line
    (λ e. let due = change e in subst (λ (text : List ℕ). IsDueAt text fault line) due.1.0 due.2)
    (λ e. let due = ledger e in subst (λ (text : List ℕ). IsDueAt text fault line) due.1.0 due.2)
    other

-- the first fault of a report is reported, and with it what is due
pub fault_told : (left after : Option (List ℕ)) (text : List ℕ) (fault : Fault Code) (told : Option Told) → CameWhole left after text → IsFirstFault true text fault → told_fault told ≡ Some fault
    → IfSome left (λ all. IsDueFor fault.code all fault (told_due told)) → IfSome left (λ all. IsFaultTold (Some Audit) all told)
fault_told None after text fault told came first is due = tt
fault_told (Some all) after text fault told came first is due = (fault, subst (λ (bytes : List ℕ). IsFirstFault true bytes fault) came.0 first, is, due)
