-- What it is to take a line, and to say what is wrong with it.
use Rattle.std.specs.Prelude.{◌≡◌, ◌⊎◌, ◌<◌, ◌^◌, ℕ, Bool, true, ◌&&◌, nat_le, ◌==◌, List, [], ◌∷◌, ◌++◌, length, Option, Some, None, IsSome, IfSome, IsTrue, if◌then◌else◌}
use Rattle.std.specs.FinSet.{union, empty}
use Rattle.rset.specs.Sets.{Set, all_below}
use Rattle.rexpand.specs.Groups.{ReadGroups, no_groups}
use Rattle.rclaim.specs.Events.{seat_of}
use Rattle.rclaim.specs.Requests.{IsNormal}
use Rattle.rclaim.specs.declared.event.Event.{Event}
use Rattle.rclaim.specs.declared.event.Event.TheVariants.{Issue, Finish, Rise, Ask}
use Rattle.rmodel.specs.Changes.{changes_between}
use Rattle.rmodel.specs.Claims.{is_admitted}
use Rattle.rmodel.specs.Holds.{holds_of}
use Rattle.rplain.specs.Machine.{Standing}
use Rattle.rmodel.specs.State.{LockState}
use Rattle.rmodel.specs.Steps.{next}
use Rattle.rmodel.specs.declared.granted.Granted.{Granted}
use Rattle.rcover_laws.specs.declared.wait_end.WaitEnd.{WaitEnd}
use Rattle.rcover.specs.Follows.{Follows}
use Rattle.rtrace_form.specs.Lines.{Line}
use Rattle.rtrace_form.specs.SoFar.{SoFar, at_tasks, at_changes, at_ledgers, lock_in, entries_in, event_place, with_line}
use Rattle.rtrace_form.specs.Faults.{line_code, is_change_due}
use Rattle.rtrace_form.specs.declared.fault.Code.{Code}
use Rattle.rtrace_form.specs.declared.fault.Code.TheVariants.{BadOrder, WrongChange}
use Rattle.rtrace_read.specs.declared.reading.ReportReader.{ReportReader}
use Rattle.rtrace_read.specs.Knows.{Knows, state_in, changes_in, past_in, waits_due}

-- what is wrong with the place of a line that is neither a change nor an act, and that may come after these places
abbrev pub place_code : SoFar → ℕ → ℕ → Option Code
place_code s least most =
    if is_change_due s then Some WrongChange
    else if nat_le least s.last && nat_le s.last most then None
    else Some BadOrder

-- whatever was said, nothing is wrong with this line after it, and the reader then knows what the line adds
abbrev pub Takes : ReportReader → ReportReader → Line → Type 0
Takes old new line = (whole : Bool) (s : SoFar) → Knows whole old s → (line_code whole s line ≡ None) × Knows whole new (with_line whole s line)

-- whatever was said, this is wrong with the line after it
abbrev pub Refuses : ReportReader → Line → Code → Type 0
Refuses old line code = (whole : Bool) (s : SoFar) → Knows whole old s → line_code whole s line ≡ Some code

-- whatever was said, this wait is the first of those that are due, and this is its line
abbrev pub IsFirstDue : ReportReader → Line → WaitEnd → Type 0
IsFirstDue old line due = (whole : Bool) (s : SoFar) → Knows whole old s → waits_due s ≡ due ∷ waits_due (with_line whole s line)

-- these names are the first of all, and so keep their numbers
abbrev pub AreFirstOf : List (List ℕ) → List (List ℕ) → Type 0
AreFirstOf names all = (more : List (List ℕ)) × (all ≡ names ++ more)

-- what was due is still due: nothing more was reported, the cap, the groups, the changes, the ledgers and which acts may follow are as they were, the names keep their numbers, and whatever was said, the lock is as its events left it, and they are still followed
pub record StillDue (old new : ReportReader) : Type 0 where
  pub kind : new.whole ≡ old.whole
  pub resources : AreFirstOf old.resources new.resources
  pub tasks : AreFirstOf old.tasks new.tasks
  pub cap : new.cap ≡ old.cap
  pub groups : new.groups ≡ old.groups
  pub last : new.last ≡ old.last
  pub told : new.told ≡ old.told
  pub lock : (whole : Bool) (s : SoFar) → Knows whole old s → state_in s new.machine ≡ lock_in s
  pub changes : changes_in new.machine ≡ changes_in old.machine
  pub ledgers : new.ledgers.items ≡ old.ledgers.items
  pub shown : new.shown ≡ old.shown
  pub edited : new.edited ≡ old.edited
  pub there : IsSome old.following → IsSome new.following
  pub followed : (whole : Bool) (s : SoFar) → Knows whole old s → IfSome new.following (λ f. Follows f (past_in s))

-- a reader is as it was, but for the room for ledgers
abbrev pub IsAsBefore : ReportReader → ReportReader → Type 0
IsAsBefore old new = (new ≡ record old { ledgers = new.ledgers }) × (new.ledgers.items ≡ old.ledgers.items)

-- a refused name may be declared after the others all the same, and no other name was added
abbrev pub MayStand : List (List ℕ) → List (List ℕ) → List ℕ → Type 0
MayStand old new name = (new ≡ old) ⊎ (new ≡ old ++ name ∷ [])

-- a reader knows what was said, and there are stamps left
abbrev pub IsReady : ReportReader → Type 0
IsReady reading = (whole : Bool) × (s : SoFar) × Knows whole reading s × (length (entries_in s) < 2 ^ 62)

-- ---- events

-- an event is one that a caller may ask for, if its request is admitted
abbrev pub FitsTold : LockState → Event → Type 0
FitsTold s (Issue seat r) =
    (seat < s.seats) × IsTrue (all_below s.groups.q r.reads) × IsTrue (all_below s.groups.q r.writes) × IsNormal r × (s.issued < 2 ^ 63)
FitsTold s (Finish seat) = seat < s.seats
FitsTold s (Rise seat) = seat < s.seats
FitsTold s (Ask seat part) = (seat < s.seats) × IsTrue (all_below s.groups.q part)

-- a machine after an accepted event
abbrev pub stepped : LockState → Event → Standing
stepped s e = record { state = next s e; last = changes_between s (next s e) }

-- what may be shown, and what may be edited, after an event whose seat held this before it
abbrev pub shown_by : Granted → Set
shown_by held = union held.reads held.writes

abbrev pub edited_by : Granted → Event → Set
edited_by held (Finish seat) = held.writes
edited_by held _ = empty

-- the request of an event is admitted, if it has one
abbrev pub event_admitted : List Set → Event → Bool
event_admitted groups (Issue seat r) = is_admitted groups r
event_admitted groups _ = true

-- an event may come here, and no change is due
abbrev pub IsPlaced : ReportReader → Type 0
IsPlaced reading = (whole : Bool) (s : SoFar) → Knows whole reading s → place_code s at_tasks at_changes ≡ None

-- acts after an event, whose seat held this before, may show these and edit those
abbrev pub Allows : Set → Set → Event → Granted → Type 0
Allows shown edited e held = (shown ≡ shown_by held) × (edited ≡ edited_by held e)

-- whatever was said, acts after this event may show and edit what its seat's holding before it allows
abbrev pub AllowsBehind : ReportReader → ReportReader → Event → Type 0
AllowsBehind old new e = (whole : Bool) (s : SoFar) → Knows whole old s → Allows new.shown new.edited e (holds_of (lock_in s).claims (seat_of e))

-- the reader after an accepted event, when none of its changes or waits was reported yet
abbrev pub noted : ReportReader → Event → ReportReader
noted reading e = record reading { last = event_place e; told = 0 }

-- after an event was taken nothing of it was reported yet, and what no event changes is as it was
abbrev pub NotesEvent : ReportReader → ReportReader → Event → Type 0
NotesEvent old new e = new ≡ noted (record old { machine = new.machine; following = new.following; shown = new.shown; edited = new.edited }) e

-- ---- ledgers

-- how many ledgers were given, where the last line is one; elsewhere none
abbrev pub ledgers_told : ReportReader → ℕ
ledgers_told reading = if reading.last == at_ledgers then reading.told else 0

-- ---- groups

-- groups over q resources were made if there are resources and there were no groups; groups that were there are kept
abbrev pub AreMade : ℕ → Option ReadGroups → Option ReadGroups → Type 0
AreMade q (Some old) new = new ≡ Some old
AreMade q None new = 0 < q → new ≡ Some (record { q = q; groups = [] })

-- the groups that are there, otherwise no group over q resources
abbrev pub groups_over : ℕ → Option ReadGroups → ReadGroups
groups_over q (Some old) = old
groups_over q None = no_groups q

-- these groups, and one more after them
abbrev pub with_group : ReadGroups → Set → ReadGroups
with_group groups set = record groups { groups = groups.groups ++ set ∷ [] }
