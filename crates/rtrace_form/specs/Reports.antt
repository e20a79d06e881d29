-- What a text says as a whole: a head and a history. Its lines follow from it, and records spell it where each says the line at its place.
use Rattle.std.specs.Prelude.{◌≡◌, ℕ, Bool, true, List, [], ◌∷◌, ◌++◌, length, map, flat_map, Option, Some, option_to_list, if◌then◌else◌}
use Rattle.std.specs.List.{AllZip, range_with_len}
use Rattle.std.specs.FinSet.{union}
use Rattle.rset.specs.Sets.{Set}
use Rattle.rclaim.specs.Changes.{ChangeLists}
use Rattle.rclaim.specs.declared.changes.GrantChange.{GrantChange}
use Rattle.rclaim.specs.declared.changes.StatusChange.{StatusChange}
use Rattle.rclaim.specs.declared.claim.Status.{Status}
use Rattle.rclaim.specs.declared.claim.Status.TheVariants.{Waiting, Entitled, Satisfied}
use Rattle.rclaim.specs.declared.event.Event.{Event}
use Rattle.rbound.specs.Bounds.{Numbers}
use Rattle.rcover_laws.specs.declared.wait_end.WaitEnd.{WaitEnd}
use Rattle.rmodel.specs.Changes.{changes_between}
use Rattle.rmodel.specs.Claims.{satisfied_by}
use Rattle.rmodel.specs.Holds.{holds_of}
use Rattle.rmodel.specs.State.{LockState}
use Rattle.rmodel.specs.Steps.{Comes, next}
use Rattle.rvalue.specs.Entries.{EntryFields}
use Rattle.rvalue.specs.Histories.{value_of}
use Rattle.rvalue.specs.Lawful as history
use Rattle.rvalue.specs.Ledgers.{opening_ledger, is_taken, value_after}
use Rattle.rvalue.specs.declared.ledger.Edit.{Edit}
use Rattle.rvalue.specs.declared.ledger.Ledger.{Ledger}
use Rattle.rtrace_form.specs.Records.{Row}
use Rattle.rtrace_form.specs.Heads.{Head, names_of, opening_of, IsHead}
use Rattle.rtrace_form.specs.Lines.{Line, Opens, HasResource, HasGroup, HasTask, HasCap, Happens, Does, BecomesEntitled, BecomesSatisfied, Grants, Waits, Leaves, Ends, meaning}
use Rattle.rtrace_form.specs.Waits.{stage_of, cover_of, ended_in, bound_in}

-- an event with its acts
abbrev pub Entry : Type 0
Entry = EntryFields Edit

-- what a report says; an event list says the same, and no entry of it has an act
pub record Report : Type 0 where
  pub head : Head
  pub entries : List Entry

-- ---- what a history does

-- the state of the lock after these entries
abbrev pub lock_after : Head → List Entry → LockState
lock_after head entries = history.state_after next (opening_of head) entries

-- the ledger of a resource after these entries
abbrev pub ledger_after : List Entry → ℕ → Ledger
ledger_after entries l = value_of value_after opening_ledger entries l

-- what a seat holds for reading, and for writing
abbrev pub reads_of : LockState → ℕ → Set
reads_of s seat = (holds_of s.claims seat).reads

abbrev pub writes_of : LockState → ℕ → Set
writes_of s seat = (holds_of s.claims seat).writes

-- each ledger opens as it is without an edit
abbrev pub OpensAt : ℕ → Ledger → Type 0
OpensAt l ledger = ledger ≡ opening_ledger

-- an entry may come after the earlier ones
abbrev pub IsRightEntry : Head → List Entry → Entry → Type 0
IsRightEntry head earlier entry =
    history.IsRightEntry Comes next reads_of writes_of value_after is_taken (λ (ledger : Ledger). ledger.balance) (opening_of head) OpensAt earlier entry

-- the history is lawful: each event is accepted in turn, and each act has the right answer in its place
abbrev pub IsLawful : Head → List Entry → Type 0
IsLawful head entries =
    history.IsLawful Comes next reads_of writes_of value_after is_taken (λ (ledger : Ledger). ledger.balance) (opening_of head) OpensAt entries

-- ---- lines

-- the line of a claim's new status; waiting has no line
abbrev pub status_lines : ℕ → Bool → Status → List Line
status_lines seat write_half Waiting = []
status_lines seat write_half Entitled = BecomesEntitled seat write_half ∷ []
status_lines seat write_half Satisfied = BecomesSatisfied seat write_half ∷ []

-- the line of a status: satisfied, or else entitled
abbrev pub status_line : StatusChange → Line
status_line c = if satisfied_by c.status then BecomesSatisfied c.seat c.write_half else BecomesEntitled c.seat c.write_half

-- the line of all that a request holds now
abbrev pub grant_line : GrantChange → Line
grant_line change = Grants change.seat (union change.reads change.writes)

-- the lines of changes
abbrev pub told_changes : ChangeLists → List Line
told_changes changes = flat_map (λ (c : StatusChange). status_lines c.seat c.write_half c.status) changes.statuses ++ map grant_line changes.grants

-- the lines of what an event changes in a state; an event list has none
unfoldable pub change_lines : Bool → LockState → Event → List Line
change_lines whole s e = if whole then told_changes (changes_between s (next s e)) else []

-- each change that an event makes in a state has its line: those of the statuses come first, and then those of the grants
abbrev pub EachChangeIsTold : LockState → Event → Type 0
EachChangeIsTold s e = change_lines true s e ≡ map status_line (changes_between s (next s e)).statuses ++ map grant_line (changes_between s (next s e)).grants

-- the line of a wait that is over, by the bounds of waits
abbrev pub wait_line : (WaitEnd → Numbers) → WaitEnd → Line
wait_line bounds w = Waits w.seat (stage_of w.which) (cover_of w) (bounds w)

-- the lines of the waits that an event after earlier entries ends; an event list has none
unfoldable pub wait_lines : Bool → (WaitEnd → Numbers) → Head → List Entry → Event → List Line
wait_lines whole bounds head earlier e = if whole then map (wait_line bounds) (ended_in head earlier e) else []

-- the lines that are due after an event and its acts: what it changes, and then the waits that it ends
abbrev pub due_lines : Bool → (WaitEnd → Numbers) → Head → List Entry → Event → List Line
due_lines whole bounds head earlier e = change_lines whole (lock_after head earlier) e ++ wait_lines whole bounds head earlier e

-- the lines of an entry: its event, its acts, and what is due then
abbrev pub entry_lines : Bool → (WaitEnd → Numbers) → Head → List Entry → Entry → List Line
entry_lines whole bounds head earlier entry = Happens entry.event ∷ (map Does entry.acts ++ due_lines whole bounds head earlier entry.event)

-- the lines of entries after earlier ones
unfoldable pub history_lines : Bool → (WaitEnd → Numbers) → Head → List Entry → List Entry → List Line
history_lines whole bounds head earlier [] = []
history_lines whole bounds head earlier (entry ∷ entries) = entry_lines whole bounds head earlier entry ++ history_lines whole bounds head (earlier ++ entry ∷ []) entries

-- the lines of the ledgers at the end, by the numbers of the resources; an event list has none
unfoldable pub ledger_lines : Bool → Head → List Entry → List Line
ledger_lines whole head entries =
    if whole then map (λ l. Leaves l (ledger_after entries l)) (range_with_len 0 (length head.resources)) else []

-- the lines of a head, where the last argument is what its cap record says, if it has one
abbrev pub declared_lines : List (List ℕ) → List Set → List (List ℕ) → Option ℕ → List Line
declared_lines resources groups tasks told =
    Opens ∷ (map HasResource resources ++ (map HasGroup groups ++ (map HasTask tasks ++ map HasCap (option_to_list told))))

abbrev pub head_lines : Head → Option ℕ → List Line
head_lines head told = declared_lines head.resources head.groups head.tasks told

-- the lines of a report, by the bounds of waits
abbrev pub lines_of : Bool → (WaitEnd → Numbers) → Option ℕ → Report → List Line
lines_of whole bounds told r = head_lines r.head told ++ (history_lines whole bounds r.head [] r.entries ++ (ledger_lines whole r.head r.entries ++ Ends ∷ []))

-- ---- the grammar

-- these records spell the report, or the event list where it is not `whole`: each says the line at its place, by the names that the head declares;
-- the bounds are those by what the whole history needs
pub record Spells (whole : Bool) (rows : List Row) (r : Report) : Type 0 where
  pub told : Option ℕ
  pub said : AllZip (λ row line. meaning whole (names_of r.head) row ≡ Some line) rows (lines_of whole (bound_in r.head r.entries) told r)
  pub head : IsHead r.head told
  pub lawful : IsLawful r.head r.entries
