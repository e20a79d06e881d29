-- What the takers of whole texts know.
use Rattle.std.specs.Prelude.{◌≡◌, ℕ, Bool, true, false, List, ◌++◌, length, Option, Some, None, option_map, option_to_list, unwrap_or}
use Rattle.rbound.specs.Bounds.{Numbers}
use Rattle.rtrace_form.specs.Records.{Row}
use Rattle.rtrace_form.specs.SoFar.{SoFar, nothing_yet, entries_in, bare, with_act}
use Rattle.rtrace_form.specs.Faults.{read_all}
use Rattle.rtrace_form.specs.WrongBounds.{bounds_said}
use Rattle.rtrace_read.specs.Knows.{Knows}
use Rattle.rtrace_read.specs.LineTakes.{StillDue}
use Rattle.rtrace.specs.ToldBounds.{KnowsBounds}
use Rattle.rtrace_write.specs.Report.{ReportFields}
use Rattle.rtrace.specs.declared.collect.Collecting.{Collecting}
use Rattle.rtrace.specs.declared.lists.ReportTaker.{ReportTaker}
use Rattle.rtrace.specs.declared.count.Counting.{Counting}
use Rattle.rtrace_read.specs.Takes.{OneMoreAtMost}
use Rattle.rtrace_read.specs.declared.taken.TakenRecord.{TakenRecord}
use Rattle.rtrace_read.specs.declared.taken.TakenRecord.TheVariants as taken

-- all that was said so far is kept
pub record KnowsAll (whole : Bool) (taker : Collecting) (s : SoFar) : Type 0 where
  pub knows : Knows whole taker.reading s
  pub earlier : taker.history.entries ≡ s.earlier
  pub latest : taker.latest ≡ s.latest

abbrev pub KnowsList : Collecting → SoFar → Type 0
KnowsList taker s = KnowsAll false taker s

-- 1 for a reported bound
abbrev pub one_if_told : Option Numbers → ℕ
one_if_told None = 0
one_if_told (Some bound) = 1

-- 1 for an event
abbrev pub one_if_event : TakenRecord → ℕ
one_if_event (taken.Event e) = 1
one_if_event (taken.Act act) = 0
one_if_event (taken.Wait told) = 0
one_if_event taken.Other = 0

-- how many waits these records of a report have
abbrev pub waits_told : List Row → ℕ
waits_told rows = length (bounds_said true 1 nothing_yet rows)

-- what was taken is kept, if the reader has taken it
abbrev pub Keeps : TakenRecord → Collecting → Collecting → Type 0
Keeps (taken.Event e) old new = (new.reading ≡ old.reading) × (new.history.entries ≡ old.history.entries ++ option_to_list old.latest) × (new.latest ≡ Some (bare e))
Keeps (taken.Act act) old new = (new.reading ≡ old.reading) × (new.history.entries ≡ old.history.entries) × (new.latest ≡ option_map (with_act act) old.latest)
Keeps (taken.Wait told) old new = new ≡ old
Keeps taken.Other old new = new ≡ old

-- all that these records of a report have said is kept, and so are the bounds that they report
pub record KnowsReport (taker : ReportTaker) (rows : List Row) : Type 0 where
  pub knows : KnowsAll true taker.inner (read_all true rows)
  pub bounds : KnowsBounds taker.bounds rows

-- the events and the waits in these records of a report are counted, and the bounds that they report are kept
pub record KnowsCount (taker : Counting) (rows : List Row) : Type 0 where
  pub knows : Knows true taker.reading (read_all true rows)
  pub bounds : KnowsBounds taker.bounds rows
  pub events : taker.events ≡ length (entries_in (read_all true rows))
  pub waits : taker.waits ≡ waits_told rows

-- a record was refused: what was due to the reader is still due, at most one name was added, and what was counted and kept of bounds is as it was
abbrev pub CountStays : Counting → Counting → Type 0
CountStays was taker =
    StillDue was.reading taker.reading × OneMoreAtMost was.reading taker.reading × (taker.bounds ≡ was.bounds) × (taker.events ≡ was.events) × (taker.waits ≡ was.waits)

-- a report is made of what is kept, including the latest entry
pub record IsFinished (taker : Collecting) (r : ReportFields) : Type 0 where
  pub resources : r.resources ≡ taker.reading.resources
  pub groups : taker.reading.groups ≡ Some r.groups
  pub tasks : r.tasks ≡ taker.reading.tasks
  pub cap : r.cap ≡ unwrap_or taker.reading.cap (length taker.reading.tasks)
  pub entries : r.entries ≡ taker.history.entries
  pub ledgers : r.ledgers ≡ taker.reading.ledgers.items
