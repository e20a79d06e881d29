-- Desks: a seat between two statements, idle or in a section.
use Rattle.std.specs.Prelude.{◌≡◌, List, [], map, fold, Option, None}
use Rattle.rvalue.specs.Entries.{EntryFields}
use Rattle.rvalue.specs.declared.ledger.Edit.{Edit}
use Rattle.rvalue.specs.declared.ledger.Ledger.{Ledger}
use Rattle.rscript.specs.Statements.{section_next, section_after}
use Rattle.rscript.specs.declared.section.OpenSection.{OpenSection}
use Rattle.rscript.specs.declared.statement.Statement.{Statement}
use Rattle.rguard.specs.Guards.{AsSeen}
use Rattle.rguard.specs.Looks.{fields_of, kind_of}
use Rattle.rguard.specs.Seats.{SeatOf, IsIdle, Goes}
use Rattle.rguard.specs.declared.guard.Guard.{Guard}
use Rattle.rrun.specs.declared.desk.Desk.{Desk}
use Rattle.rrun.specs.declared.desk.Desk.TheVariants.{Idle, Busy}
use Rattle.rrun.specs.Runs.{told_by, deed_of, deeds_next, entry_now, run_of, broken_off}
use Rattle.rrun.specs.Working.{section_made, guard_kind, IsIn, AreWhole}

module _ {M : Type 0} where
  -- the guard is that of the section
  pub record IsGuardOf (section : OpenSection) (guard : Guard Ledger M Edit) : Type 0 where
    pub is_in : IsIn section (fields_of guard).seat
    pub kind : kind_of guard ≡ guard_kind section.request.kind section.risen

  abbrev pub seat_in : Desk M → SeatOf Ledger Edit
  seat_in (Idle seat) = seat
  seat_in (Busy guard) = (fields_of guard).seat

  -- the acts of the open section that no entry has yet
  abbrev pub deeds_in : Desk M → List Statement
  deeds_in (Idle seat) = []
  deeds_in (Busy guard) = map deed_of (fields_of guard).acts

  -- the section that is open, by the seat's own entries
  abbrev pub section_in : Desk M → Option OpenSection
  section_in desk = section_made (seat_in desk).mine

  -- an idle desk has an idle seat, and a busy one has the guard of its section
  abbrev pub IsAt : Desk M → Type 0
  IsAt (Idle seat) = IsIdle seat × (section_made seat.mine ≡ None)
  IsAt (Busy guard) = (section : OpenSection) × IsGuardOf section guard

  -- The statement is carried out: the seat goes on with the entries it makes
  pub record HasStepped (before : Desk M) (s : Statement) (later : Desk M) : Type 0 where
    pub is_at : IsAt later
    pub section : section_in later ≡ section_next (section_in before) s
    pub deeds : deeds_in later ≡ deeds_next (deeds_in before) s
    pub more : List (EntryFields Edit)
    pub goes : Goes (seat_in before) more (seat_in later)
    pub run : map told_by more ≡ entry_now (seat_in before).number (deeds_in before) s

-- it is not carried out, and the section that is open, if any, is broken off
pub record HasLeft (before later : SeatOf Ledger Edit) : Type 0 where
  pub idle : IsIdle later
  pub more : List (EntryFields Edit)
  pub goes : Goes before more later
  pub run : map told_by more ≡ broken_off before.number (section_made before.mine)

-- After the first statements: the seat has gone on with the entries they make, and the desk has the section and the
-- acts that they leave
pub record IsBehind {M : Type 0} (seat : SeatOf Ledger Edit) (behind : List Statement) (ahead : List Statement) (desk : Desk M) : Type 0 where
  pub is_at : IsAt desk
  pub section : section_in desk ≡ section_after behind
  pub deeds : deeds_in desk ≡ fold deeds_next [] behind
  pub more : List (EntryFields Edit)
  pub goes : Goes seat more (seat_in desk)
  pub run : map told_by more ≡ run_of seat.number [] behind
  pub whole : AsSeen seat (λ b. AreWhole b.groups.q b.groups.groups (section_in desk) ahead)
