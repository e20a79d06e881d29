-- What a taker of a report keeps of its bounds, until they can be judged.
use Rattle.std.specs.Prelude.{◌≡◌, ℕ, ◌+◌, true, false, nat_lt, List, [], ◌++◌, length, Option, Some, None, if◌then◌else◌}
use Rattle.rexpand.specs.Groups.{ReadGroups}
use Rattle.rcover_laws.specs.declared.wait_end.WaitEnd.{WaitEnd}
use Rattle.rcover.specs.Past.{Past}
use Rattle.rtrace_form.specs.Heads.{is_nil}
use Rattle.rtrace_form.specs.Records.{Row}
use Rattle.rtrace_form.specs.Waits.{all_ended}
use Rattle.rtrace_form.specs.SoFar.{SoFar, nothing_yet, at_ledgers, head_in, entries_in}
use Rattle.rtrace_form.specs.Faults.{read_all}
use Rattle.rtrace_form.specs.WrongBounds.{bounds_said}
use Rattle.rtrace.specs.Told.{Told, said, waits_of, AreBefore}
use Rattle.rtrace.specs.Knows.{KnowsTold}
use Rattle.rtrace.specs.declared.told_bounds.ToldBounds.{ToldBounds}
use Rattle.rtrace_read.specs.Knows.{Knows, past_in, waits_due}
use Rattle.rtrace_read.specs.Takes.{TakesRow, TellsBound}
use Rattle.rtrace.specs.declared.bounds.BoundsKept.{BoundsKept}
use Rattle.rtrace_read.specs.declared.reading.ReportReader.{ReportReader}
use Rattle.rtrace_read.specs.declared.taken.TakenRecord.{TakenRecord}

-- what judges bounds was given these events, and these bounds of waits that they ended; before the first event there is nothing
abbrev pub AreTold : Option ToldBounds → Past → List Told → Type 0
AreTold None p items = (p.events ≡ []) × (items ≡ [])
AreTold (Some told) p items = (is_nil p.events ≡ false) × KnowsTold told p.groups p.seats p.cap p.events items

-- it was made for so many tasks, if there was none
abbrev pub IsMade : ℕ → Option ToldBounds → Option ToldBounds → Type 0
IsMade tasks (Some told) new = new ≡ Some told
IsMade tasks None None = ⊥
IsMade tasks None (Some told) = (groups : ReadGroups) (cap : ℕ) → KnowsTold told groups tasks cap [] []

-- the waits that have ended and were not reported: those that are due, until the first ledger
abbrev pub waits_left : SoFar → List WaitEnd
waits_left s = if nat_lt s.last at_ledgers then waits_due s else []

-- the bounds in these records of a report were taken, each by its record's number and with its wait: the waits that the history ended, in their order, but for those that are left
pub record KnowsBounds (kept : BoundsKept) (rows : List Row) : Type 0 where
  pub items : List Told
  pub records : kept.records ≡ length rows
  pub bounds : bounds_said true 1 nothing_yet rows ≡ said items
  pub below : AreBefore (length rows + 1) items
  pub waits : waits_of items ++ waits_left (read_all true rows) ≡ all_ended (head_in (read_all true rows)) (entries_in (read_all true rows))
  pub told : AreTold kept.told (past_in (read_all true rows)) items

-- a reader took another record of a report, which said this
pub record HasRead (old new : ReportReader) (rows : List Row) (row : Row) (what : TakenRecord) : Type 0 where
  pub knows : Knows true old (read_all true rows)
  pub takes : TakesRow old new row what
  pub tells : TellsBound old row what
