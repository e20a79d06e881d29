-- What a reader keeps of what the lines so far have said.
use Rattle.std.specs.Prelude.{◌≡◌, ◌≤◌, ◌<◌, ℕ, Bool, true, false, ◌&&◌, nat_lt, List, [], ◌-◌, drop, filter, length, slice_get, Option, Some, None, IfSome, IsSome, if◌then◌else◌}
use Rattle.std.specs.FinSet.{contains, empty}
use Rattle.rset.specs.Sets.{Set}
use Rattle.rset.specs.declared.TheConstants.{SEATS}
use Rattle.rexpand.specs.Groups.{ReadGroups}
use Rattle.rclaim.specs.Changes.{ChangeLists, no_changes}
use Rattle.rclaim.specs.Events.{seat_of}
use Rattle.rmodel.specs.Changes.{changes_between, AreActive}
use Rattle.rplain.specs.Machine.{Standing}
use Rattle.rmodel.specs.State.{LockState}
use Rattle.rmodel.specs.Steps.{next}
use Rattle.rvalue.specs.Acts.{value_within}
use Rattle.rvalue.specs.Lawful.{stands_with, is_held}
use Rattle.rvalue.specs.Ledgers.{value_after}
use Rattle.rvalue.specs.declared.act.Act.{Act}
use Rattle.rvalue.specs.declared.act.Act.TheVariants.{Edited, Shown}
use Rattle.rvalue.specs.declared.ledger.Edit.{Edit}
use Rattle.rcover_laws.specs.declared.wait_end.WaitEnd.{WaitEnd}
use Rattle.rcover.specs.Follows.{Follows}
use Rattle.rcover.specs.Past.{Past}
use Rattle.rcover.specs.declared.following.Following.{Following}
use Rattle.rtrace_read.specs.Due.{due_list}
use Rattle.rtrace_form.specs.Heads.{Head, read_groups, opening_of}
use Rattle.rtrace_form.specs.Lines.{Line}
use Rattle.rtrace_form.specs.Reports.{Entry, lock_after, ledger_after, reads_of, writes_of, ledger_lines}
use Rattle.rtrace_form.specs.ToldWaits.{tells_wait}
use Rattle.rtrace_form.specs.Waits.{events_of, ended_in}
use Rattle.rtrace_form.specs.SoFar.{SoFar, at_resources, at_groups, at_tasks, at_cap, at_acts, at_changes, at_ledgers, at_end, head_in, lock_in, entries_in}
use Rattle.rtrace_read.specs.declared.reading.ReportReader.{ReportReader}

-- the groups that are known, once no resource can follow
abbrev pub known_groups : SoFar → Option ReadGroups
known_groups s = if nat_lt s.last at_groups then None else Some (read_groups (head_in s))

-- the state of a machine; before it is made, the state before the first event
abbrev pub state_in : SoFar → Option Standing → LockState
state_in s None = opening_of (head_in s)
state_in s (Some machine) = machine.state

-- the changes of the latest event, as the machine has them
abbrev pub changes_in : Option Standing → ChangeLists
changes_in None = no_changes
changes_in (Some machine) = machine.last

-- the waits that an entry after earlier ones ended, if there is such an entry
abbrev pub ended_at : Head → List Entry → Option Entry → List WaitEnd
ended_at head earlier None = []
ended_at head earlier (Some entry) = ended_in head earlier entry.event

-- the waits that the latest event ended
abbrev pub last_ended : SoFar → List WaitEnd
last_ended s = ended_at (head_in s) s.earlier s.latest

-- the waits of the latest event that are due: the last ones, as many as there are lines of waits due
abbrev pub waits_due : SoFar → List WaitEnd
waits_due s = drop (length (last_ended s) - length (filter tells_wait s.due)) (last_ended s)

-- the lines that are due once so many were given; an event list has none
abbrev pub due_left : Bool → ℕ → List Line → List Line
due_left whole told lines = if whole then drop told lines else []

-- the events so far, as whoever follows them is given them
abbrev pub past_in : SoFar → Past
past_in s = record { groups = read_groups (head_in s); seats = length s.tasks; cap = (head_in s).cap; events = events_of (entries_in s) }

-- a follower is beside a machine after the events so far, and the latest entry has the last event; before the first event there is neither
abbrev pub StandBehind : Option Standing → Option Following → Option Entry → Past → Type 0
StandBehind None None latest p = (latest ≡ None) × (p.events ≡ [])
StandBehind (Some machine) (Some following) latest p = IsSome latest × Follows following p
StandBehind None (Some following) latest p = ⊥
StandBehind (Some machine) None latest p = ⊥

-- acts of an entry may be on these resources: shows on the first, edits on the second
abbrev pub may_do : Set → Set → Act Edit → Bool
may_do shown edited (Edited place edit done) = contains edited place
may_do shown edited (Shown place number) = contains shown place

-- the latest entry, which may have acts: the reader knows on which resources, and what its acts make of each ledger
pub record IsOpen (reading : ReportReader) (s : SoFar) : Type 0 where
  pub entry : Entry
  pub is : s.latest ≡ Some entry
  pub allowed : (act : Act Edit) → may_do reading.shown reading.edited act
      ≡ (stands_with entry.event act && is_held (reads_of (lock_after (head_in s) s.earlier) (seat_of entry.event)) (writes_of (lock_after (head_in s) s.earlier) (seat_of entry.event)) act)
  pub within : (l : ℕ) → value_within value_after (ledger_after s.earlier l) entry.acts l ≡ ledger_after (entries_in s) l

-- the reader knows the ledger of each resource
pub record KnowsLedgers (reading : ReportReader) (s : SoFar) : Type 0 where
  pub many : length reading.ledgers.items ≡ length s.resources
  pub each : (l : ℕ) → l < length s.resources → slice_get reading.ledgers.items l ≡ Some (ledger_after (entries_in s) l)

-- the reader knows what the lines so far have said, as far as it needs to judge the next one
pub record Knows (whole : Bool) (reading : ReportReader) (s : SoFar) : Type 0 where
  pub kind : reading.whole ≡ whole
  pub last : reading.last ≡ s.last
  pub most : s.last ≤ at_end
  pub resources : reading.resources ≡ s.resources
  pub tasks : reading.tasks ≡ s.tasks
  pub cap : reading.cap ≡ s.cap
  pub capped : IfSome s.cap (λ n. (1 ≤ n) × (n ≤ SEATS))
  pub groups : reading.groups ≡ known_groups s
  pub no_groups : s.last ≤ at_resources → s.groups ≡ []
  pub some_resource : at_resources ≤ s.last → 0 < length s.resources
  pub some_task : at_tasks ≤ s.last → 0 < length s.tasks
  pub idle : s.last ≤ at_cap → (reading.machine ≡ None) × (s.earlier ≡ []) × (s.latest ≡ None) × (reading.told ≡ 0) × (reading.shown ≡ empty) × (reading.edited ≡ empty)
  pub untold : whole ≡ false → reading.told ≡ 0
  pub lock : state_in s reading.machine ≡ lock_in s
  pub stand : StandBehind reading.machine reading.following s.latest (past_in s)
  pub due : s.last ≤ at_changes → s.due ≡ due_left whole reading.told (due_list (changes_in reading.machine) (last_ended s))
  pub changes : (entry : Entry) → s.latest ≡ Some entry
      → changes_in reading.machine ≡ changes_between (lock_after (head_in s) s.earlier) (next (lock_after (head_in s) s.earlier) entry.event)
  pub active : AreActive (changes_in reading.machine).statuses
  pub ledgers : KnowsLedgers reading s
  pub acts : whole ≡ true → s.last ≡ at_acts → IsOpen reading s
  pub left : s.last ≡ at_ledgers → s.due ≡ drop reading.told (ledger_lines whole (head_in s) (entries_in s))
