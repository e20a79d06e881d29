-- Tasks of a script at a runtime: which seats may run them, and what the seats have done then.
use Rattle.std.specs.Prelude.{◌≡◌, ℕ, Option, Some, None, List, length, slice_get}
use Rattle.rlock.specs.Known.{Site}
use Rattle.rvalue.specs.declared.ledger.Edit.{Edit}
use Rattle.rvalue.specs.declared.ledger.Ledger.{Ledger}
use Rattle.rrun.specs.Statement.{Statement}
use Rattle.rrun.specs.Scripts.{ScriptFields}
use Rattle.rguard.specs.Seats.{SeatOf}
use Rattle.rrun.specs.Runs.{HasRun, HasBrokenOff}
use Rattle.rrun.specs.Seats.{IsSeatFor}

-- the seats are those of the tasks, one for each, in order
pub record AreSeatsFor (site : Site) (p : ScriptFields) (seats : List (SeatOf Ledger Edit)) : Type 0 where
  pub count : length seats ≡ length p.tasks
  pub each : (k : ℕ) (seat : SeatOf Ledger Edit) → slice_get seats k ≡ Some seat → IsSeatFor site p k seat

-- a seat has run the statements, or, if it was stopped after k whole sections, just those and a part of the next, which is
-- broken off
abbrev pub HasEnded : List Statement → SeatOf Ledger Edit → Option ℕ → SeatOf Ledger Edit → Type 0
HasEnded statements seat None later = HasRun statements seat later
HasEnded statements seat (Some k) later = HasBrokenOff k statements seat later
