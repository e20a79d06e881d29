-- The headline: what is promised of the report of a run, sentence by sentence.
use Rattle.std.specs.Prelude.{◌≡◌, ◌≢◌, ℕ, Bool, true, false, List, [], ◌∷◌, ◌++◌, length, map, filter, slice_get, Some, None}
use Rattle.std.specs.List.{AllByRecursion, list_any, range_with_len}
use Rattle.rclaim.specs.Changes.{ChangeLists}
use Rattle.rclaim.specs.Events.{seat_of}
use Rattle.rclaim.specs.declared.event.Event.{Event}
use Rattle.rbound.specs.Bounds.{IsWithin}
use Rattle.rbound.specs.TaskNeeds.{bound_of}
use Rattle.rcover_laws.specs.History.{length_in, number_in, number_from}
use Rattle.rcover_laws.specs.Moments.{moments}
use Rattle.rcover_laws.specs.Told.{AreBounded}
use Rattle.rcover_laws.specs.Within.{needed_by}
use Rattle.rbound_history.specs.Foreseen.{MayHave}
use Rattle.rcover_laws.specs.declared.wait_end.WaitEnd.{WaitEnd}
use Rattle.rmodel.specs.declared.claimed.Claimed.{Claimed}
use Rattle.rmodel.specs.Changes.{changes_between}
use Rattle.rmodel.specs.Laws.{IsExclusive, IsHeld}
use Rattle.rmodel.specs.State.{LockState}
use Rattle.rmodel.specs.Steps.{Steps, next}
use Rattle.rmodel.specs.WellFormed.{Among}
use Rattle.rlock.specs.Known.{entries_by}
use Rattle.rscript.specs.declared.statement.Statement.{Statement}
use Rattle.rrun.specs.Scripts.{ScriptFields}
use Rattle.rrun.specs.Needs.{needs_of}
use Rattle.rnlp_cli.specs.BoundText.{wait_row, tasks_rows, cap_meant}
use Rattle.rrun.specs.Runs.{IsRunOf}
use Rattle.rtrace_form.specs.Faults.{is_ledger}
use Rattle.rtrace_form.specs.Heads.{Head, read_groups, opening_of}
use Rattle.rtrace_form.specs.SetFields.{name_at}
use Rattle.rtrace_form.specs.Lines.{Line, Happens, Does, BecomesEntitled, BecomesSatisfied, Grants, Leaves}
use Rattle.rtrace_form.specs.Reports.{Entry, Report, IsLawful, lock_after, ledger_after, status_line, grant_line, entry_lines, lines_of}
use Rattle.rtrace_form.specs.ToldWaits.{EachWaitIsTold}
use Rattle.rtrace_form.specs.Waits.{events_of, ended_in, cover_of, needs_in, bound_in}

-- ---- after each event

-- this holds after each event, and before the first
abbrev pub AtEach : (List Entry → Type 0) → List Entry → Type 0
AtEach So entries = (earlier rest : List Entry) → entries ≡ earlier ++ rest → So earlier

-- this holds for each entry after those before it
abbrev pub OfEach : (List Entry → Entry → Type 0) → List Entry → Type 0
OfEach So entries = (earlier : List Entry) (entry : Entry) (rest : List Entry) → entries ≡ earlier ++ entry ∷ rest → So earlier entry

-- *just what the rules grant is held*: by the rules the event leads to this state and to no other
pub record IsByTheRules (s : LockState) (e : Event) (t : LockState) : Type 0 where
  pub steps : Steps s e t
  pub only : (u : LockState) → Steps s e u → u ≡ t

-- the lines of changes: of each status, and then of each grant
abbrev pub change_lines_of : ChangeLists → List Line
change_lines_of changes = map status_line changes.statuses ++ map grant_line changes.grants

-- a line is about a change of a claim's status, or a grant
abbrev pub tells_change : Line → Bool
tells_change (BecomesEntitled seat half) = true
tells_change (BecomesSatisfied seat half) = true
tells_change (Grants seat set) = true
tells_change _ = false

-- after its event and its acts an entry has the lines of just the changes that its event makes: first those of the
-- statuses, then those of the grants
pub record HasItsChanges (head : Head) (entries earlier : List Entry) (entry : Entry) : Type 0 where
  pub behind : List Line
  pub none : list_any tells_change behind ≡ false
  pub are : entry_lines true (bound_in head entries) head earlier entry
      ≡ Happens entry.event ∷ (map Does entry.acts ++ (change_lines_of (changes_between (lock_after head earlier) (next (lock_after head earlier) entry.event)) ++ behind))

-- the entry leads to the state after it by the rules, and each change of it has its line
pub record IsGranted (head : Head) (entries earlier : List Entry) (entry : Entry) : Type 0 where
  pub rules : IsByTheRules (lock_after head earlier) entry.event (lock_after head (earlier ++ entry ∷ []))
  pub told : HasItsChanges head entries earlier entry

-- *without conflict*: what one seat holds for writing, no other seat holds
abbrev pub IsApart : LockState → Type 0
IsApart s = (seat other : ℕ) → seat ≢ other → IsExclusive s seat other

-- ---- waits

-- *every wait is covered*: each wait that a claim is in after these entries is covered over its moments so far, and
-- within its bound by what the whole history needs
abbrev pub AreCovered : Head → List Entry → List Entry → Type 0
AreCovered head entries earlier =
    (x : Claimed) → Among x (lock_after head earlier).claims
    → AreBounded (needed_by (read_groups head) (length head.tasks) (events_of entries)) (length_in (events_of entries)) (number_in (events_of entries)) (length head.tasks) head.cap
    (moments (opening_of head) (events_of earlier)) (lock_after head earlier).claims x

-- *within its printed bound*: no number of the cover in a wait's line is above that of the bound beside it
abbrev pub IsPrintedWithin : Head → List Entry → WaitEnd → Type 0
IsPrintedWithin head entries w = IsWithin (cover_of w) (bound_in head entries w)

-- each wait that the entry ends has its line, with its cover and its bound; and its cover is within its bound
pub record HasItsWaits (head : Head) (entries earlier : List Entry) (entry : Entry) : Type 0 where
  pub told : EachWaitIsTold (bound_in head entries) head earlier entry
  pub within : AllByRecursion (IsPrintedWithin head entries) (ended_in head earlier entry.event)

-- the request of a wait, by its number among those of its seat
abbrev pub request_of : Report → WaitEnd → ℕ
request_of r w = number_from (events_of r.entries) w.stamp w.seat

-- *counted beforehand*: by the script the task has that request, which may have that wait; the bound printed beside the
-- wait is the one counted for it from what the script needs, under a cap of one request for each task; and its record
-- is one of those of `bounds_text p None`, which `bound` writes of the script
pub record IsCountedBeforehand (p : ScriptFields) (r : Report) (w : WaitEnd) : Type 0 where
  pub request : MayHave (needs_of p).tasks w.seat (request_of r w) w.which
  pub bound : bound_in r.head r.entries w ≡ bound_of (needs_of p) (length p.tasks) w.seat (request_of r w) w.which
  pub line : Among (wait_row (needs_of p) (length p.tasks) (name_at p.tasks w.seat) w.seat (request_of r w) w.which) (tasks_rows (needs_of p) (cap_meant p None) p.tasks)

-- this holds for each wait that an entry ends
abbrev pub AreCountedBeforehand : ScriptFields → Report → Type 0
AreCountedBeforehand p r = OfEach (λ earlier entry. AllByRecursion (IsCountedBeforehand p r) (ended_in r.head earlier entry.event)) r.entries

-- ---- ledgers

-- *each ledger*: there is a line for each resource, by number, and it has the ledger that the acts of the history make
abbrev pub AreLedgersTold : Report → Type 0
AreLedgersTold r =
    filter is_ledger (lines_of true (bound_in r.head r.entries) (Some r.head.cap) r) ≡ map (λ l. Leaves l (ledger_after r.entries l)) (range_with_len 0 (length r.head.resources))

-- ---- all of it

-- *What is promised of a report*: its history is kept under the protocol lock; after every event just what the rules grant is held,
-- without conflict, and something while any request is incomplete; every wait is covered within its printed bound; and each ledger
-- is what its write sections made of it
pub record IsKept (r : Report) : Type 0 where
  -- each event is accepted after those before it; each act comes where it may, its seat holds the resource (for an
  -- edit, for writing, and the edit comes with the finish of that section), and its answer is right
  pub lawful : IsLawful r.head r.entries
  pub granted : OfEach (IsGranted r.head r.entries) r.entries
  pub apart : AtEach (λ earlier. IsApart (lock_after r.head earlier)) r.entries
  -- *something while any request is incomplete*: then some claim is satisfied, and the seat of each satisfied claim
  -- holds something
  pub something : AtEach (λ earlier. IsHeld (lock_after r.head earlier)) r.entries
  pub covered : AtEach (AreCovered r.head r.entries) r.entries
  pub waits : OfEach (HasItsWaits r.head r.entries) r.entries
  pub ledgers : AreLedgersTold r

-- *The headline*: whatever script comes, the report of its run says what the script declares, with a cap of one request
-- for each task; each task's requests are in it in script order, each once; what the tasks need by its history is what
-- they need by the script, so that each bound in it is the one counted beforehand; its history keeps the promise; and
-- after it no request is incomplete, so that each wait has ended
pub record IsHeadline (p : ScriptFields) (r : Report) : Type 0 where
  pub resources : r.head.resources ≡ p.resources
  pub groups : r.head.groups ≡ p.groups
  pub tasks : r.head.tasks ≡ p.tasks
  pub cap : r.head.cap ≡ length p.tasks
  pub requests : (task : ℕ) (statements : List Statement) → slice_get p.steps task ≡ Some statements
      → IsRunOf task statements (entries_by (λ (entry : Entry). seat_of entry.event) task r.entries)
  pub needs : needs_in r.head r.entries ≡ needs_of p
  pub kept : IsKept r
  pub over : (lock_after r.head r.entries).claims ≡ []
