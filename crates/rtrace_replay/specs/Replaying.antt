-- What is known while an event list is read and its report is made.
use Rattle.std.specs.Prelude.{◌≡◌, ◌⊎◌, ◌≤◌, ℕ, true, false, List, [], Option, None, IfSome}
use Rattle.rtrace_form.specs.Faults.{is_ended}
use Rattle.rtrace_form.specs.Records.{Row}
use Rattle.rtrace_form.specs.Reports.{history_lines}
use Rattle.rtrace_form.specs.SoFar.{SoFar, at_acts, entries_in, head_in, names_in}
use Rattle.rtrace_form.specs.Waits.{all_ended, no_bounds}
use Rattle.rtrace_write.specs.Behind.{past_in}
use Rattle.rtrace_write.specs.Gathered.{KnowsGathered}
use Rattle.rtrace_write.specs.Open.{open_told}
use Rattle.rtrace_read.specs.Knows.{Knows}
use Rattle.rtrace_read.specs.LineTakes.{StillDue, IsAsBefore}
use Rattle.rtrace_read.specs.declared.reading.ReportReader.{ReportReader}
use Rattle.rtrace_read.specs.Takes.{TakesRow, OneMoreAtMost}
use Rattle.rtrace_read.specs.declared.taken.TakenRecord.{TakenRecord}
use Rattle.rtrace_read.specs.declared.taken.TakenRecord.TheVariants as taken
use Rattle.rtrace_replay.specs.declared.replaying.Replaying.{Replaying}
use Rattle.rtrace_replay.specs.declared.replaying.Telling.{Telling}

-- the text of the history so far, as a report has it, with a gap for the bound of each wait
abbrev pub history_text : SoFar → List (Option ℕ)
history_text s = open_told (names_in s) (history_lines true no_bounds (head_in s) [] (entries_in s))

-- the `Telling` has the names that were declared, no more can follow, and it was given the events so far and the waits that they ended
pub record KnowsTelling (telling : Telling) (s : SoFar) : Type 0 where
  pub names : telling.names ≡ names_in s
  pub far : at_acts ≤ s.last
  pub gathered : KnowsGathered telling.gathered (past_in (head_in s) (entries_in s)) (all_ended (head_in s) (entries_in s))

-- the reader knows what was said, the text is that of the history so far, and the `Telling` is there from the first event on
pub record KnowsReplay (replaying : Replaying) (s : SoFar) : Type 0 where
  pub reading : Knows false replaying.reading s
  pub history : replaying.history ≡ history_text s
  pub telling : IfSome replaying.telling (λ telling. KnowsTelling telling s)
  pub untold : replaying.telling ≡ None → entries_in s ≡ []

-- the list was read to its end, the text is that of its history, and the `Telling` is there
pub record IsToldToEnd (text : List (Option ℕ)) (telling : Telling) (reading : ReportReader) (s : SoFar) : Type 0 where
  pub knows : Knows false reading s
  pub ended : is_ended s ≡ true
  pub history : text ≡ history_text s
  pub told : KnowsTelling telling s

-- a record was refused: it said nothing, what was due to the reader is still due, at most one name was added, and the text and the `Telling` are as they were
abbrev pub ReplayStays : Replaying → Replaying → Type 0
ReplayStays was taker =
    (taker ≡ record was { reading = taker.reading; taken = taker.taken }) × (taker.taken ≡ taken.Other) × StillDue was.reading taker.reading × OneMoreAtMost was.reading taker.reading

-- when memory runs out: a reader is as before but for the room for ledgers, or it has taken the record
abbrev pub StandsOrTook : ReportReader → ReportReader → Row → Type 0
StandsOrTook old new row = IsAsBefore old new ⊎ ((what : TakenRecord) × TakesRow old new row what)
