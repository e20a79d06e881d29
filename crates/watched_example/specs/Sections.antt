-- What the threads of the example do.
use Rattle.std.specs.Prelude.{◌≡◌, ℕ, true, Some, List, [], ◌∷◌}
use Rattle.std.specs.FinSet.{insert, empty}
use Rattle.rset.specs.Sets.{Set}
use Rattle.rset.specs.declared.TheConstants.{RESOURCES}
use Rattle.rexpand.specs.Groups.{no_groups}
use Rattle.rlock.specs.Known.{Site}
use Rattle.rvalue.specs.declared.act.Act.{Act}
use Rattle.rvalue.specs.declared.act.Act.TheVariants.{Edited}
use Rattle.rvalue.specs.declared.ledger.Ledger.{Ledger}
use Rattle.rvalue.specs.declared.ledger.Edit.{Edit}
use Rattle.rvalue.specs.declared.ledger.Edit.TheVariants.{Add}
use Rattle.rwatch.specs.Seen.{Seen}
use Rattle.rguard.specs.Seats.{SeatOf, Goes}
use Rattle.rguard.specs.Guards.{AsSeen}
use Rattle.rguard.specs.Resting.{Rests}
use Rattle.rguard.specs.Sections.{write_of, sections_of}

-- the record that all sections write
abbrev pub the_record : Set
the_record = insert empty 0

-- 1 is added to it, and it takes that
abbrev pub one_added : List (Act Edit)
one_added = Edited 0 (Add 1) true ∷ []

-- no request of the seat is incomplete; its lock has no groups
abbrev pub IsAtRest : Site → SeatOf Ledger Edit → Type 0
IsAtRest = Rests (no_groups RESOURCES)

-- the seat has made this many whole sections, and nothing else, each of which added 1 to the record
abbrev pub HasMade : ℕ → SeatOf Ledger Edit → SeatOf Ledger Edit → Type 0
HasMade count seat later = Goes seat (sections_of seat.number (write_of the_record) one_added count) later

-- the seat with this number has done nothing yet, and its lock began with these watchers
pub record IsNew (watched : List Seen) (site : Site) (number : ℕ) (seat : SeatOf Ledger Edit) : Type 0 where
  pub rests : IsAtRest site seat
  pub number_is : seat.number ≡ number
  pub nothing : seat.mine ≡ []
  pub opens : AsSeen seat (λ b. b.watched ≡ Some watched)
