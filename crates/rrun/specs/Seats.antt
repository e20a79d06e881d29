-- Which seat may run the sections of a task.
use Rattle.std.specs.Prelude.{◌≡◌, ℕ, length}
use Rattle.rlock.specs.Known.{Site}
use Rattle.rvalue.specs.declared.ledger.Edit.{Edit}
use Rattle.rvalue.specs.declared.ledger.Ledger.{Ledger}
use Rattle.rscript.specs.Scripts.{ScriptFields}
use Rattle.rguard.specs.Guards.{AsSeen}
use Rattle.rguard.specs.Seats.{SeatOf, IsOf, IsIdle}

-- the runtime of the seat has the script's resources and read groups
abbrev pub IsOver : ScriptFields → SeatOf Ledger Edit → Type 0
IsOver p seat = AsSeen seat (λ b. b.groups ≡ record { q = length p.resources; groups = p.groups })

-- the seat may run the task: it is the idle seat of this number, at a runtime over what the script declares
pub record IsSeatFor (site : Site) (p : ScriptFields) (task : ℕ) (seat : SeatOf Ledger Edit) : Type 0 where
  pub of : IsOf site seat
  pub idle : IsIdle seat
  pub number : seat.number ≡ task
  pub over : IsOver p seat
