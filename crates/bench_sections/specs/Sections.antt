-- What a section does: its request, and the acts of its finish.
use Rattle.std.specs.Prelude.{◌≡◌, ℕ, Bool, true, if◌then◌else◌, List, [], map}
use Rattle.std.specs.FinSet.{empty, insert}
use Rattle.rset.specs.Sets.{Set, rising}
use Rattle.rclaim.specs.Requests.{RequestFields}
use Rattle.rvalue.specs.declared.act.Act.{Act}
use Rattle.rvalue.specs.declared.act.Act.TheVariants.{Edited}
use Rattle.rvalue.specs.declared.ledger.Ledger.{Ledger}
use Rattle.rvalue.specs.declared.ledger.Edit.{Edit}
use Rattle.rvalue.specs.declared.ledger.Edit.TheVariants.{Add}
use Rattle.rvalue.specs.Ledgers.{value_after}
use Rattle.rguard.specs.Seats.{SeatOf}
use Rattle.rguard.specs.Guards.{GuardFields, Holding, HasValue}
use Rattle.rguard.specs.Sections.{write_of, read_of, HasEntered, HasFinished}

-- 1 is added to each of these ledgers, by rising number, and each takes it
abbrev pub one_added : Set → List (Act Edit)
one_added set = map (λ l. Edited l (Add 1) true) (rising set)

-- a section writes these resources, or reads resource 0
abbrev pub request_of : Bool → Set → RequestFields
request_of writes set = if writes then write_of set else read_of (insert empty 0)

-- if it writes, it adds 1 to each of them; if it reads, it has no acts
abbrev pub acts_of : Bool → Set → List (Act Edit)
acts_of writes set = if writes then one_added set else []

-- the seat made one section that read this ledger, and saw as many 1s in it as edits
pub record HasRead (place : ℕ) (seat later : SeatOf Ledger Edit) : Type 0 where
  pub guard : GuardFields Ledger Edit
  pub entered : HasEntered (read_of (insert empty place)) seat guard
  pub holds : Holding guard.seat place
  pub seen : (ledger : Ledger) × HasValue value_after guard place ledger × (ledger.balance ≡ ledger.edits)
  pub finished : HasFinished [] guard later
