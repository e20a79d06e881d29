-- What it is to take a record, and to say what is wrong with it.
use Rattle.std.specs.Prelude.{◌≡◌, ◌⊎◌, ◌+◌, ℕ, Bool, true, false, List, ◌∷◌, Option, Some, None, IsSome, option_map}
use Rattle.rclaim.specs.declared.event.Event.{Event}
use Rattle.rclaim.specs.declared.request.RequestErr.{RequestErr}
use Rattle.rtrace_form.specs.Records.{Row}
use Rattle.rtrace_form.specs.Decided.{field_of}
use Rattle.rtrace_form.specs.Words.{word_in}
use Rattle.rtrace_form.specs.declared.word.Word.{Word}
use Rattle.rtrace_form.specs.declared.word.Word.TheVariants as word
use Rattle.rbound.specs.Bounds.{Numbers, numbers_in}
use Rattle.rtrace_form.specs.WrongBounds.{bound_said}
use Rattle.rtrace_form.specs.SoFar.{SoFar, at_changes, at_ledgers, at_end, names_in, entries_in, bare, with_act, with_row}
use Rattle.rtrace_form.specs.Faults.{code_of}
use Rattle.rtrace_form.specs.declared.fault.Code.{Code}
use Rattle.rtrace_form.specs.Told.{IsTold}
use Rattle.rtrace_form.specs.declared.event.EventTold.TheVariants as event_told
use Rattle.rtrace_read.specs.declared.reading.ReportReader.{ReportReader}
use Rattle.rtrace_read.specs.declared.taken.TakenRecord.{TakenRecord}
use Rattle.rtrace_read.specs.declared.taken.TakenRecord.TheVariants as taken
use Rattle.rtrace_read.specs.Knows.{Knows, waits_due}
use Rattle.rtrace_read.specs.LineTakes.{MayStand, AllowsBehind, NotesEvent, ledgers_told}

-- what was taken adds this to the entries; a wait is the first of those that are due, and no longer due
abbrev pub Adds : TakenRecord → SoFar → SoFar → Type 0
Adds (taken.Event e) s t = (t.earlier ≡ entries_in s) × (t.latest ≡ Some (bare e))
Adds (taken.Act act) s t = (t.earlier ≡ s.earlier) × (t.latest ≡ option_map (with_act act) s.latest) × IsSome s.latest
Adds (taken.Wait told) s t = (t.earlier ≡ s.earlier) × (t.latest ≡ s.latest) × (waits_due s ≡ told.wait ∷ waits_due t)
Adds taken.Other s t = (t.earlier ≡ s.earlier) × (t.latest ≡ s.latest)

-- whatever was said, nothing is wrong with this record after it, the reader then knows what it adds, and that is what was taken
abbrev pub TakesRow : ReportReader → ReportReader → Row → TakenRecord → Type 0
TakesRow old new row what =
    (whole : Bool) (s : SoFar) → Knows whole old s → (code_of whole s row ≡ None) × Knows whole new (with_row whole s row) × Adds what s (with_row whole s row)

-- whatever was said, this is wrong with the record after it
abbrev pub RefusesRow : ReportReader → Row → Code → Type 0
RefusesRow old row code = (whole : Bool) (s : SoFar) → Knows whole old s → code_of whole s row ≡ Some code

-- after a refused record of this word no name was added but its own: that of a resource or of a task may be declared after the others all the same
abbrev pub NamesBehind : Option Word → ReportReader → ReportReader → Row → Type 0
NamesBehind (Some word.Resource) old new row = MayStand old.resources new.resources (field_of row 1) × (new.tasks ≡ old.tasks)
NamesBehind (Some word.Task) old new row = (new.resources ≡ old.resources) × MayStand old.tasks new.tasks (field_of row 1)
NamesBehind _ old new row = (new.resources ≡ old.resources) × (new.tasks ≡ old.tasks)

-- a refused record declares no name but its own: so a record of an event, of an act or of a group, and a record of no word, declares nothing
abbrev pub NamesStay : ReportReader → ReportReader → Row → Type 0
NamesStay old new row = NamesBehind (word_in old.whole row) old new row

-- at most one name was added, in one of the two tables
abbrev pub OneMoreAtMost : ReportReader → ReportReader → Type 0
OneMoreAtMost old new =
    (name : List ℕ) × ((MayStand old.resources new.resources name × (new.tasks ≡ old.tasks)) ⊎ ((new.resources ≡ old.resources) × MayStand old.tasks new.tasks name))

-- the bound of what was taken, if it is a wait
abbrev pub bound_of : TakenRecord → Option Numbers
bound_of (taken.Wait told) = Some (numbers_in told.bound)
bound_of _ = None

-- the bound in a record is the bound of what was taken
abbrev pub TellsBound : ReportReader → Row → TakenRecord → Type 0
TellsBound old row what = (whole : Bool) (s : SoFar) → Knows whole old s → bound_said whole (names_in s) row ≡ bound_of what

-- what was taken is this event, in normal form; or its request is refused for this cause
abbrev pub IsKept : Option RequestErr → TakenRecord → Event → Type 0
IsKept None what e = (what ≡ taken.Event e) × IsTold (event_told.Event e) e
IsKept (Some cause) what e = IsTold (event_told.Refused cause) e

-- ---- what is counted

-- one more of the latest event's changes or ended waits was reported, and all else is as it was
abbrev pub OneMoreTold : ReportReader → ReportReader → Type 0
OneMoreTold old new = new ≡ record old { last = at_changes; told = old.told + 1 }

-- a record of this word that adds nothing to the history is counted, and all else is as it was: a change, a ledger, the end. Records of the head are not counted
abbrev pub CountsWord : Option Word → ReportReader → ReportReader → Type 0
CountsWord (Some (word.Entitled half)) old new = OneMoreTold old new
CountsWord (Some (word.Satisfied half)) old new = OneMoreTold old new
CountsWord (Some word.Grant) old new = OneMoreTold old new
CountsWord (Some word.Ledger) old new = new ≡ record old { last = at_ledgers; told = ledgers_told old + 1 }
CountsWord (Some word.End) old new = new ≡ record old { last = at_end }
CountsWord _ old new = Unit {0}

-- the same, by what was taken: after an event nothing of it was reported yet, a wait is one more, and an act changes only ledgers
abbrev pub Counts : Option Word → TakenRecord → ReportReader → ReportReader → Type 0
Counts w (taken.Event e) old new = NotesEvent old new e
Counts w (taken.Act act) old new = new ≡ record old { ledgers = new.ledgers }
Counts w (taken.Wait told) old new = OneMoreTold old new
Counts w taken.Other old new = CountsWord w old new

-- a record that was taken is counted, and after the head what it does not change is as it was
abbrev pub CountsRow : ReportReader → ReportReader → Row → TakenRecord → Type 0
CountsRow old new row what = Counts (word_in old.whole row) what old new

-- after an event of a report acts may do what its seat's holding before it allows; an event of a list changes nothing there
abbrev pub AllowsActs : ReportReader → ReportReader → TakenRecord → Type 0
AllowsActs old new (taken.Event e) = (old.whole ≡ true → AllowsBehind old new e) × (old.whole ≡ false → (new.shown ≡ old.shown) × (new.edited ≡ old.edited))
AllowsActs old new _ = Unit {0}
