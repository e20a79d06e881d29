-- What is left after a run of the tasks.
use Rattle.std.specs.Prelude.{◌≡◌, ℕ, Option, Some, None, List, map, length, slice_get}
use Rattle.rlock.specs.Known.{Site}
use Rattle.rvalue.specs.declared.ledger.Edit.{Edit}
use Rattle.rvalue.specs.declared.ledger.Ledger.{Ledger}
use Rattle.rrun.specs.Statement.{Statement}
use Rattle.rrun.specs.Scripts.{ScriptFields}
use Rattle.rguard.specs.Seats.{SeatOf}
use Rattle.rrun.specs.Seats.{IsSeatFor}
use Rattle.rrun.specs.declared.jobs.Job.{Job}
use Rattle.rrun.specs.declared.tasks.Ended.{Ended}
use Rattle.rrun.specs.Tasks.{HasEnded}

-- a job that was not done yet
abbrev pub waiting : SeatOf Ledger Edit → Job (SeatOf Ledger Edit)
waiting seat = record { seat = Some seat; stopped = None }

module _ {M : Type 0} where
  -- the job of a task that has ended
  abbrev pub resting : Ended M → Job (SeatOf Ledger Edit)
  resting ended = record { seat = Some ended.seat; stopped = ended.stopped }

  -- What a run leaves of the seats: each is idle at its runtime, and has run its task or a part of it
  pub record AreEnded (site : Site) (p : ScriptFields) (seats : List (SeatOf Ledger Edit)) (ended : List (Ended M)) : Type 0 where
    pub count : length ended ≡ length p.tasks
    pub seats_are : (k : ℕ) (e : Ended M) → slice_get ended k ≡ Some e → IsSeatFor site p k e.seat
    pub each : (k : ℕ) (statements : List Statement) (seat : SeatOf Ledger Edit) (e : Ended M)
        → slice_get p.steps k ≡ Some statements → slice_get seats k ≡ Some seat → slice_get ended k ≡ Some e → HasEnded statements seat e.stopped e.seat

-- these are the seats of jobs that were done, and after how many whole sections each of their tasks was stopped, if it was
pub record AreLeftBy (M : Type 0) (jobs : List (Job (SeatOf Ledger Edit))) (seats : List (SeatOf Ledger Edit)) (stopped : List (Option ℕ)) : Type 0 where
  pub ended : List (Ended M)
  pub jobs_are : jobs ≡ map (resting {M = M}) ended
  pub seats_are : seats ≡ map (λ (e : Ended M). e.seat) ended
  pub stopped_are : stopped ≡ map (λ (e : Ended M). e.stopped) ended
