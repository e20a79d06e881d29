-- What the lines before a record have said, and what each line adds to it.
use Rattle.std.specs.Prelude.{ℕ, Bool, nat_lt, List, [], ◌∷◌, ◌++◌, drop, Option, Some, None, option_map, option_to_list, if◌then◌else◌}
use Rattle.rset.specs.Sets.{Set}
use Rattle.rclaim.specs.declared.event.Event.{Event}
use Rattle.rclaim.specs.declared.event.Event.TheVariants as event
use Rattle.rmodel.specs.State.{LockState}
use Rattle.rvalue.specs.declared.act.Act.{Act}
use Rattle.rvalue.specs.declared.ledger.Edit.{Edit}
use Rattle.rtrace_form.specs.Records.{Row}
use Rattle.rtrace_form.specs.Fields.{Names}
use Rattle.rtrace_form.specs.Heads.{Head, names_of, cap_or}
use Rattle.rtrace_form.specs.Lines.{Line, Opens, HasResource, HasGroup, HasTask, HasCap, Happens, Does, BecomesEntitled, BecomesSatisfied, Grants, Waits, Leaves, Ends, meaning}
use Rattle.rtrace_form.specs.Waits.{no_bounds}
use Rattle.rtrace_form.specs.Reports.{Entry, Report, lock_after, due_lines, ledger_lines}
use Rattle.rtrace_form.specs.declared.word.Word.{Word}
use Rattle.rtrace_form.specs.declared.word.Word.TheVariants as word

-- ---- places: where the last line is, in the order in which lines may come

abbrev pub at_start : ℕ
at_start = 0

abbrev pub at_version : ℕ
at_version = 1

abbrev pub at_resources : ℕ
at_resources = 2

abbrev pub at_groups : ℕ
at_groups = 3

abbrev pub at_tasks : ℕ
at_tasks = 4

abbrev pub at_cap : ℕ
at_cap = 5

-- after an event that acts may follow, and after its acts
abbrev pub at_acts : ℕ
at_acts = 6

-- after any other event, after a change, and after a wait
abbrev pub at_changes : ℕ
at_changes = 7

abbrev pub at_ledgers : ℕ
at_ledgers = 8

abbrev pub at_end : ℕ
at_end = 9

-- where a line may come: the least and the greatest place that it may follow, and its own
pub record Stand : Type 0 where
  pub least : ℕ
  pub most : ℕ
  pub own : ℕ

abbrev pub stand : ℕ → ℕ → ℕ → Stand
stand least most own = record { least = least; most = most; own = own }

-- where a line of each word may come. A change or a wait may follow anything but the end: whether it is due is a separate question
abbrev pub stands : Word → Stand
stands word.Version = stand at_start at_start at_version
stands word.Resource = stand at_version at_resources at_resources
stands word.Group = stand at_resources at_groups at_groups
stands word.Task = stand at_resources at_tasks at_tasks
stands word.Cap = stand at_tasks at_tasks at_cap
stands (word.Issue kind) = stand at_tasks at_changes at_changes
stands word.Finish = stand at_tasks at_changes at_acts
stands word.Rise = stand at_tasks at_changes at_acts
stands word.Ask = stand at_tasks at_changes at_changes
stands word.Show = stand at_acts at_acts at_acts
stands (word.Add done) = stand at_acts at_acts at_acts
stands (word.Take done) = stand at_acts at_acts at_acts
stands (word.Put done) = stand at_acts at_acts at_acts
stands (word.Entitled write_half) = stand at_start at_ledgers at_changes
stands (word.Satisfied write_half) = stand at_start at_ledgers at_changes
stands word.Grant = stand at_start at_ledgers at_changes
stands (word.Wait which) = stand at_start at_ledgers at_changes
stands word.Ledger = stand at_tasks at_ledgers at_ledgers
stands word.End = stand at_tasks at_ledgers at_end

-- ---- what the lines so far have said

-- the place of the last line, what the head declares, all entries but the latest, the latest, and the lines that are due, without bounds
pub record SoFar : Type 0 where
  pub last : ℕ
  pub resources : List (List ℕ)
  pub groups : List Set
  pub tasks : List (List ℕ)
  pub cap : Option ℕ
  pub earlier : List Entry
  pub latest : Option Entry
  pub due : List Line

-- before the first line
abbrev pub nothing_yet : SoFar
nothing_yet = record { last = at_start; resources = []; groups = []; tasks = []; cap = None; earlier = []; latest = None; due = [] }

-- the entries so far, the latest too
abbrev pub entries_in : SoFar → List Entry
entries_in s = s.earlier ++ option_to_list s.latest

-- the head that is declared so far
abbrev pub head_in : SoFar → Head
head_in s = record { resources = s.resources; groups = s.groups; tasks = s.tasks; cap = cap_or s.tasks s.cap }

-- the names that are declared so far
abbrev pub names_in : SoFar → Names
names_in s = names_of (head_in s)

-- the state of the lock after the events so far
abbrev pub lock_in : SoFar → LockState
lock_in s = lock_after (head_in s) (entries_in s)

-- the ledgers that are due: all of them until the first one is given
abbrev pub ledgers_due : Bool → SoFar → List Line
ledgers_due whole s = if nat_lt s.last at_ledgers then ledger_lines whole (head_in s) (entries_in s) else s.due

-- what the lines so far have said as a whole
abbrev pub told_in : SoFar → Report
told_in s = record { head = head_in s; entries = entries_in s }

-- ---- what a line adds

-- the place of the line of an event
abbrev pub event_place : Event → ℕ
event_place (event.Issue seat r) = at_changes
event_place (event.Finish seat) = at_acts
event_place (event.Rise seat) = at_acts
event_place (event.Ask seat part) = at_changes

-- an event without an act
abbrev pub bare : Event → Entry
bare e = record { event = e; acts = [] }

-- an entry with one more act
abbrev pub with_act : Act Edit → Entry → Entry
with_act act entry = record { event = entry.event; acts = entry.acts ++ act ∷ [] }

-- what a line adds to what was said before it
abbrev pub with_line : Bool → SoFar → Line → SoFar
with_line whole s Opens = record s { last = at_version }
with_line whole s (HasResource name) = record s { last = at_resources; resources = s.resources ++ name ∷ [] }
with_line whole s (HasGroup group) = record s { last = at_groups; groups = s.groups ++ group ∷ [] }
with_line whole s (HasTask name) = record s { last = at_tasks; tasks = s.tasks ++ name ∷ [] }
with_line whole s (HasCap n) = record s { last = at_cap; cap = Some n }
with_line whole s (Happens e) = record s { last = event_place e; earlier = entries_in s; latest = Some (bare e); due = due_lines whole no_bounds (head_in s) (entries_in s) e }
with_line whole s (Does act) = record s { last = at_acts; latest = option_map (with_act act) s.latest }
with_line whole s (BecomesEntitled seat write_half) = record s { last = at_changes; due = drop 1 s.due }
with_line whole s (BecomesSatisfied seat write_half) = record s { last = at_changes; due = drop 1 s.due }
with_line whole s (Grants seat set) = record s { last = at_changes; due = drop 1 s.due }
with_line whole s (Waits seat which cover bound) = record s { last = at_changes; due = drop 1 s.due }
with_line whole s (Leaves place ledger) = record s { last = at_ledgers; due = drop 1 (ledgers_due whole s) }
with_line whole s Ends = record s { last = at_end; due = [] }

-- what a record adds: what the line that it says adds, if it says one
abbrev pub with_meaning : Bool → SoFar → Option Line → SoFar
with_meaning whole s None = s
with_meaning whole s (Some line) = with_line whole s line

unfoldable pub with_row : Bool → SoFar → Row → SoFar
with_row whole s row = with_meaning whole s (meaning whole (names_in s) row)
