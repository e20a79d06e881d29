-- Jobs: a task with its seat.
use Rattle.std.specs.Prelude.{◌≡◌, ◌<◌, ℕ, Some, List, length, slice_get, slice_index_or, IsSomeAnd}
use Rattle.rlock.specs.Known.{Site}
use Rattle.rvalue.specs.declared.ledger.Edit.{Edit}
use Rattle.rvalue.specs.declared.ledger.Ledger.{Ledger}
use Rattle.rrun.specs.Statement.{Statement}
use Rattle.rrun.specs.Scripts.{ScriptFields}
use Rattle.rguard.specs.Seats.{SeatOf}
use Rattle.rrun.specs.Seats.{IsSeatFor}
use Rattle.rrun.specs.declared.jobs.Job.{Job}
use Rattle.rrun.specs.Tasks.{HasEnded}

-- the job has the seat of the task
abbrev pub IsReady : Site → ScriptFields → ℕ → Job (SeatOf Ledger Edit) → Type 0
IsReady site p task job = IsSomeAnd job.seat (IsSeatFor site p task)

-- the job was done: its seat has run the statements, or was stopped
pub record IsDone (site : Site) (p : ScriptFields) (task : ℕ) (statements : List Statement) (before after : Job (SeatOf Ledger Edit)) : Type 0 where
  pub ready : IsReady site p task after
  pub ended : (seat later : SeatOf Ledger Edit) → before.seat ≡ Some seat → after.seat ≡ Some later → HasEnded statements seat after.stopped later

abbrev pub AreReady : Site → ScriptFields → List (Job (SeatOf Ledger Edit)) → Type 0
AreReady site p jobs = (k : ℕ) (d : Job (SeatOf Ledger Edit)) → k < length jobs → IsReady site p k (slice_index_or jobs k d)

abbrev pub AreDone : Site → ScriptFields → List (Job (SeatOf Ledger Edit)) → List (Job (SeatOf Ledger Edit)) → Type 0
AreDone site p before after =
    (k : ℕ) (d : Job (SeatOf Ledger Edit)) (statements : List Statement) → k < length before → slice_get p.steps k ≡ Some statements
    → IsDone site p k statements (slice_index_or before k d) (slice_index_or after k d)
