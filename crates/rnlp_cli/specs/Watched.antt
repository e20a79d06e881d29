-- What the watchers see, and with it what else a command leaves.
use Rattle.std.specs.Prelude.{◌≡◌, ℕ, false, List, map, Option, Some, None, IfSome}
use Rattle.io_ends.specs.Ends.{Appends, AppendsPrefix}
use Rattle.rtrace_form.specs.Reports.{Entry, Report}
use Rattle.rtrace_form.specs.Texts.{IsTextOf, report_text}
use Rattle.rwatch.specs.Seen.{Seen, told_all}
pub use Rattle.rrun.specs.Steps.{list_steps}
use Rattle.rnlp_cli.specs.Leaving.{RunLeaves}
use Rattle.rnlp_cli.specs.Outputs.{told_drill}
use Rattle.rnlp_cli.specs.declared.command.Command.{Command}
use Rattle.rnlp_cli.specs.declared.command.Command.TheVariants.{Run, Replay, Audit, Bound, Drill}
use Rattle.rnlp_cli.specs.declared.command.RunForm.{RunForm}
use Rattle.rnlp_cli.specs.declared.status.ToolStatus.{ToolStatus}
use Rattle.rnlp_cli.specs.declared.status.ToolStatus.TheVariants as status

-- they saw just the steps of the list whose report was written (`Writes`); it is the list that the bytes spell, where
-- they are known
pub record AreToldList (left : Option (List ℕ)) (Writes : List ℕ → Type 0) (before after : List Seen) : Type 0 where
  pub report : Report
  pub spelled : IfSome left (λ bytes. IsTextOf false bytes report)
  pub written : Writes (report_text report)
  pub told : after ≡ map (told_all (list_steps report)) before

-- the watchers after a replay that ended this way, by the input that was left and by what was written
abbrev pub ReplayWatched : Option (List ℕ) → Option (List ℕ) → Option (List ℕ) → List Seen → List Seen → ToolStatus → Type 0
ReplayWatched left written written_after before after status.Done = AreToldList left (Appends written written_after) before after
ReplayWatched left written written_after before after status.WriteFault = AreToldList left (AppendsPrefix written written_after) before after
ReplayWatched left written written_after before after status.Words = after ≡ before
ReplayWatched left written written_after before after status.ReadFault = after ≡ before
ReplayWatched left written written_after before after status.Script = after ≡ before
ReplayWatched left written written_after before after status.TooLong = after ≡ before
ReplayWatched left written written_after before after status.NoMemory = after ≡ before
ReplayWatched left written written_after before after status.Trace = after ≡ before

-- and after a drill: they saw its steps if its summary was written, whole or a front part
abbrev pub DrillWatched : ℕ → List Seen → List Seen → ToolStatus → Type 0
DrillWatched count before after status.Done = after ≡ told_drill count before
DrillWatched count before after status.WriteFault = after ≡ told_drill count before
DrillWatched count before after status.Words = after ≡ before
DrillWatched count before after status.ReadFault = after ≡ before
DrillWatched count before after status.Script = after ≡ before
DrillWatched count before after status.TooLong = after ≡ before
DrillWatched count before after status.NoMemory = after ≡ before
DrillWatched count before after status.Trace = after ≡ before

-- and after a run in this form, with some receipts
abbrev pub RunWatched : RunForm → Option (List ℕ) → Option (List ℕ) → Option (List ℕ) → List Seen → List Seen → ToolStatus → Type 0
RunWatched form left written written_after before after answer =
    (receipts : List (List Entry)) × (receipts_after : List (List Entry)) × RunLeaves form left written written_after receipts receipts_after before after answer

-- *The watchers after any command*
abbrev pub Watched : Option Command → Option (List ℕ) → Option (List ℕ) → Option (List ℕ) → List Seen → List Seen → ToolStatus → Type 0
Watched (Some Replay) left written written_after before after answer = ReplayWatched left written written_after before after answer
Watched (Some (Drill count)) left written written_after before after answer = DrillWatched count before after answer
Watched None left written written_after before after answer = after ≡ before
Watched (Some (Run form)) left written written_after before after answer = RunWatched form left written written_after before after answer
Watched (Some Audit) left written written_after before after answer = after ≡ before
Watched (Some (Bound cap)) left written written_after before after answer = after ≡ before

-- *The receipts and the watchers after any command*: those of a run are of its one history, and any other command hands
-- out no receipt
abbrev pub Leaves : Option Command → Option (List ℕ) → Option (List ℕ) → Option (List ℕ) → List (List Entry) → List (List Entry) → List Seen → List Seen → ToolStatus → Type 0
Leaves (Some (Run form)) left written written_after receipts receipts_after before after answer = RunLeaves form left written written_after receipts receipts_after before after answer
Leaves None left written written_after receipts receipts_after before after answer = (receipts_after ≡ receipts) × Watched None left written written_after before after answer
Leaves (Some Replay) left written written_after receipts receipts_after before after answer = (receipts_after ≡ receipts) × Watched (Some Replay) left written written_after before after answer
Leaves (Some Audit) left written written_after receipts receipts_after before after answer = (receipts_after ≡ receipts) × Watched (Some Audit) left written written_after before after answer
Leaves (Some (Bound cap)) left written written_after receipts receipts_after before after answer = (receipts_after ≡ receipts) × Watched (Some (Bound cap)) left written written_after before after answer
Leaves (Some (Drill count)) left written written_after receipts receipts_after before after answer = (receipts_after ≡ receipts) × Watched (Some (Drill count)) left written written_after before after answer
