-- The line that is due where a report has its first fault, as it is reported to the user.
use Rattle.std.specs.Prelude.{◌≡◌, ℕ, ◌+◌, ◌-◌, true, nat_lt, if◌then◌else◌, List, [], ◌∷◌, ◌++◌, codes, length, take, Option, None, option_map, slice_get}
use Rattle.std.specs.Str.Lossy.{utf8_lossy}
use Rattle.rbound.specs.Bounds.{Numbers}
use Rattle.rtrace_form.specs.Records.{Row, AreRowsOf}
use Rattle.rtrace_form.specs.Fields.{Names}
use Rattle.rtrace_form.specs.Faults.{read_all}
use Rattle.rtrace_form.specs.Lines.{Line, Waits}
use Rattle.rtrace_form.specs.SoFar.{SoFar, at_ledgers, at_end, names_in, ledgers_due}
use Rattle.rtrace_form.specs.declared.fault.Code.{Code}
use Rattle.rtrace_form.specs.declared.fault.Code.TheVariants.{WrongChange, WrongLedger}
use Rattle.rtrace_form.specs.declared.fault.Fault.{Fault}
use Rattle.rtrace_form.specs.declared.word.Stage.{Stage}
use Rattle.rtrace_write.specs.Told.{told_line}
use Rattle.rtrace_write.specs.Waits.{cover_text}

-- a line as text, without the byte at its end. What is not UTF-8 would appear as U+FFFD; names have letters, digits and
-- underscores only
abbrev pub as_text : List ℕ → List ℕ
as_text line = utf8_lossy (take (length line - 1) line)

-- the line of a wait up to its bound, which is known only where the whole report is
abbrev pub cover_line : Names → ℕ → Stage → Numbers → List ℕ
cover_line names seat which cover = cover_text names seat which cover ++ (codes " and its bound" ++ 10 ∷ [])

-- the text of a line that is due
abbrev pub due_text : Names → Line → List ℕ
due_text names (Waits seat which cover bound) = cover_line names seat which cover
due_text names line = told_line names line

-- the lines that are due after what was said, of the kind that this fault is about: changes and waits, which are due
-- until the first ledger line, or ledgers, which are due until the end
abbrev pub due_behind : SoFar → Code → List Line
due_behind s WrongChange = if nat_lt s.last at_ledgers then s.due else []
due_behind s WrongLedger = if nat_lt s.last at_end then ledgers_due true s else []
due_behind s _ = []

-- the first of them, if there is one
abbrev pub first_due_text : Names → SoFar → Code → Option (List ℕ)
first_due_text names s code = option_map (λ (line : Line). as_text (due_text names line)) (slice_get (due_behind s code) 0)

-- names that begin with these: each of these has the same number there
pub record BeginWith (few all : Names) : Type 0 where
  pub resources : (more : List (List ℕ)) × (all.resources ≡ few.resources ++ more)
  pub tasks : (more : List (List ℕ)) × (all.tasks ≡ few.tasks ++ more)

-- this line is due where a report has this fault, or no line is: it is the first one due after the records before the
-- faulty one
pub record IsDueAt (bytes : List ℕ) (fault : Fault Code) (line : Option (List ℕ)) : Type 0 where
  pub before : List Row
  pub behind : List Row
  pub are : AreRowsOf bytes (before ++ behind)
  pub counted : length before + 1 ≡ fault.line
  pub names : Names
  pub declared : BeginWith (names_in (read_all true before)) names
  pub first : first_due_text names (read_all true before) fault.code ≡ line

-- what is due where a report has this fault: for a wrong change or a wrong ledger a line of that kind, for any other
-- fault none
abbrev pub IsDueFor : Code → List ℕ → Fault Code → Option (List ℕ) → Type 0
IsDueFor WrongChange bytes fault line = IsDueAt bytes fault line
IsDueFor WrongLedger bytes fault line = IsDueAt bytes fault line
IsDueFor _ bytes fault line = line ≡ None
