-- The report of a script's run.
use Rattle.std.specs.Prelude.{◌≡◌, ℕ, Option, Some, None, List, [], length, replicate, slice_get}
use Rattle.rclaim.specs.Events.{seat_of}
use Rattle.rlock.specs.Known.{Site, entries_by}
use Rattle.rvalue.specs.declared.ledger.Edit.{Edit}
use Rattle.rvalue.specs.declared.ledger.Ledger.{Ledger}
use Rattle.rvalue.specs.Entries.{EntryFields}
use Rattle.rvalue.specs.Ledgers.{opening_ledger}
use Rattle.rstate.specs.Histories.{Beginning}
use Rattle.rtrace_form.specs.Reports.{IsLawful}
use Rattle.rtrace_write.specs.Report.{ReportFields, told_by, IsOverResources, HasItsLedgers}
use Rattle.rwatch.specs.Seen.{Seen}
use Rattle.rrun.specs.Statement.{Statement}
use Rattle.rrun.specs.Scripts.{ScriptFields}
use Rattle.rrun.specs.GuardSeats.{SeatOf}
use Rattle.rrun.specs.Runs.{IsRunOf, IsPartialRunOf}
use Rattle.rrun.specs.Tasks.{AreSeatsFor, HasEnded}

-- how the runtime of a script begins: with what the script declares, a seat for each task, as many requests at once as
-- there are tasks, fresh ledgers, and these watchers, if there are any
abbrev pub beginning_of : ScriptFields → Option (List Seen) → Beginning Ledger
beginning_of p watched = record {
  groups = record { q = length p.resources; groups = p.groups };
  seats = length p.tasks;
  cap = length p.tasks;
  values = replicate (length p.resources) opening_ledger;
  watched = watched;
}

-- the runtime of a script has just begun, with these seats and these watchers, if there are any
pub record HasOpened (p : ScriptFields) (watched : Option (List Seen)) (site : Site) (seats : List (SeatOf Ledger Edit)) : Type 0 where
  pub seats_are : AreSeatsFor site p seats
  pub begins : (k : ℕ) (seat : SeatOf Ledger Edit) → slice_get seats k ≡ Some seat → seat.opening ≡ Some (beginning_of p watched)
  pub nothing_made : (k : ℕ) (seat : SeatOf Ledger Edit) → slice_get seats k ≡ Some seat → seat.mine ≡ []

-- each of the seats has run its task, or, if the task was stopped, as many whole sections of it as this says, and a part of the
-- next
abbrev pub HaveEnded : ScriptFields → List (Option ℕ) → List (SeatOf Ledger Edit) → List (SeatOf Ledger Edit) → Type 0
HaveEnded p stopped seats later =
    (k : ℕ) (statements : List Statement) (o : Option ℕ) (seat last : SeatOf Ledger Edit) → slice_get p.steps k ≡ Some statements → slice_get stopped k ≡ Some o
    → slice_get seats k ≡ Some seat → slice_get later k ≡ Some last → HasEnded statements seat o last

-- the report says what the script declares, with a cap of one request for each task
pub record TellsHeadOf (p : ScriptFields) (r : ReportFields) : Type 0 where
  pub resources : r.resources ≡ p.resources
  pub groups : r.groups ≡ record { q = length p.resources; groups = p.groups }
  pub tasks : r.tasks ≡ p.tasks
  pub cap : r.cap ≡ length p.tasks

-- what the entries of a seat may be, by its number and the statements of its task
abbrev pub Runs : Type 1
Runs = ℕ → List Statement → List (EntryFields Edit) → Type 0

-- The report of a run in which each task has such entries: its history is lawful, and the ledgers are what the history
-- makes
pub record IsReportBy (Ran : Runs) (p : ScriptFields) (r : ReportFields) : Type 0 where
  pub head : TellsHeadOf p r
  pub lawful : IsLawful (told_by r).head r.entries
  pub each : (k : ℕ) (statements : List Statement) → slice_get p.steps k ≡ Some statements → Ran k statements (entries_by (λ (entry : EntryFields Edit). seat_of entry.event) k r.entries)
  pub over : IsOverResources r
  pub ledgers : HasItsLedgers r

-- *The run of a script*: the entries of each task are the run of its statements
abbrev pub IsReportOf : ScriptFields → ReportFields → Type 0
IsReportOf = IsReportBy IsRunOf

-- the entries of a task are the run of its statements, or, if it was stopped after k whole sections, the run of just those and
-- a part of the next one, which is broken off without its acts
abbrev pub HasTold : Option ℕ → Runs
HasTold None = IsRunOf
HasTold (Some k) = IsPartialRunOf k

-- *The run of a script whose tasks may have been stopped*: for each task, by number, after how many whole sections it was
-- stopped, if it was. A task that was stopped after k of them was in the section number k + 1, counted from 1
pub record IsReportOfRun (p : ScriptFields) (stopped : List (Option ℕ)) (r : ReportFields) : Type 0 where
  pub count : length stopped ≡ length p.tasks
  pub is : IsReportBy (λ k statements entries. (o : Option ℕ) → slice_get stopped k ≡ Some o → HasTold o k statements entries) p r
