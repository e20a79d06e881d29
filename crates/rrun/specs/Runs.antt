-- Runs: the entries that the statements of a task make, up to the answers that its acts get.
use Rattle.std.specs.Prelude.{◌≡◌, ◌<◌, ℕ, List, [], ◌∷◌, ◌++◌, map, take, length, Option, Some, None}
use Rattle.rclaim.specs.declared.event.Event.{Event}
use Rattle.rclaim.specs.declared.event.Event.TheVariants as events
use Rattle.rvalue.specs.declared.act.Act.{Act}
use Rattle.rvalue.specs.declared.act.Act.TheVariants.{Edited, Shown}
use Rattle.rvalue.specs.declared.ledger.Edit.{Edit}
use Rattle.rvalue.specs.declared.ledger.Ledger.{Ledger}
use Rattle.rvalue.specs.Entries.{EntryFields}
use Rattle.rscript.specs.Statements.{section_after}
use Rattle.rscript.specs.declared.section.OpenSection.{OpenSection}
use Rattle.rscript.specs.declared.statement.Statement.{Statement}
use Rattle.rscript.specs.declared.statement.Statement.TheVariants as statement
use Rattle.rguard.specs.Seats.{SeatOf, Goes}
use Rattle.rrun.specs.Sections.{first_sections, section_at}

-- the statement that an act carries out, whatever answer it got
abbrev pub deed_of : Act Edit → Statement
deed_of (Edited place edit done) = statement.Edit place edit
deed_of (Shown place number) = statement.Show place

-- an entry without its answers: its event, and the statements that its acts carry out, in order
pub record Told : Type 0 where
  pub event : Event
  pub deeds : List Statement

abbrev pub told_by : EntryFields Edit → Told
told_by entry = record { event = entry.event; deeds = map deed_of entry.acts }

-- ---- what statements make

-- the acts of a section that no entry has yet, after a statement: a rise and a finish take them
abbrev pub deeds_next : List Statement → Statement → List Statement
deeds_next deeds (statement.Begin r) = []
deeds_next deeds (statement.Edit place edit) = deeds ++ statement.Edit place edit ∷ []
deeds_next deeds (statement.Show place) = deeds ++ statement.Show place ∷ []
deeds_next deeds (statement.Ask part) = deeds
deeds_next deeds statement.Rise = []
deeds_next deeds statement.Finish = []

-- the entry that a statement makes at a seat, if it makes one, with the acts that no entry has yet
abbrev pub entry_now : ℕ → List Statement → Statement → List Told
entry_now n deeds (statement.Begin r) = record { event = events.Issue n r; deeds = [] } ∷ []
entry_now n deeds (statement.Edit place edit) = []
entry_now n deeds (statement.Show place) = []
entry_now n deeds (statement.Ask part) = record { event = events.Ask n part; deeds = [] } ∷ []
entry_now n deeds statement.Rise = record { event = events.Rise n; deeds = deeds } ∷ []
entry_now n deeds statement.Finish = record { event = events.Finish n; deeds = deeds } ∷ []

-- The entries that statements make, where no entry has these acts yet: an issue for a request, an ask for each ask, for
-- a rise the shows before it, and for a finish all acts since the rise or the beginning
abbrev pub run_of : ℕ → List Statement → List Statement → List Told
run_of n deeds [] = []
run_of n deeds (s ∷ statements) = entry_now n deeds s ++ run_of n (deeds_next deeds s) statements

-- *The run of a task's statements*: these entries of seat n are what the statements make, in their order, and no others
abbrev pub IsRunOf : ℕ → List Statement → List (EntryFields Edit) → Type 0
IsRunOf n statements entries = map told_by entries ≡ run_of n [] statements

-- the entry that ends a section that is broken off: a finish without acts
abbrev pub broken_off : ℕ → Option OpenSection → List Told
broken_off n None = []
broken_off n (Some section) = record { event = events.Finish n; deeds = [] } ∷ []

-- the entries of a section in which no more than its first statements were carried out: what these make, and the end of the
-- section if it was begun
abbrev pub part_of : ℕ → List Statement → List Told
part_of n front = run_of n [] front ++ broken_off n (section_after front)

-- *A partial run*, of k whole sections and a part of the next: the entries are what the first k sections make, and then those
-- of the next one, which is broken off. That one is never whole: at least one statement of it was not carried out
pub record IsPartialRunOf (k n : ℕ) (statements : List Statement) (entries : List (EntryFields Edit)) : Type 0 where
  pub count : ℕ
  pub some : count < length (section_at k statements)
  pub are : map told_by entries ≡ run_of n [] (first_sections k statements) ++ part_of n (take count (section_at k statements))

-- ---- what a seat has done

-- The seat has carried out the statements: it goes on to the later one with their run
pub record HasRun (statements : List Statement) (seat later : SeatOf Ledger Edit) : Type 0 where
  pub more : List (EntryFields Edit)
  pub goes : Goes seat more later
  pub run : IsRunOf seat.number statements more

-- the seat has carried out k whole sections of them, and has broken off in the next
pub record HasBrokenOff (k : ℕ) (statements : List Statement) (seat later : SeatOf Ledger Edit) : Type 0 where
  pub more : List (EntryFields Edit)
  pub goes : Goes seat more later
  pub run : IsPartialRunOf k seat.number statements more
