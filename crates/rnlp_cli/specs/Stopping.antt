-- Runs in which tasks were stopped because memory ran out.
use Rattle.std.specs.Prelude.{◌≡◌, ◌⊎◌, ℕ, true, is_some, List, Option, Some, None, IfSome}
use Rattle.std.specs.List.{list_any}
use Rattle.rrun.specs.Reporting.{IsReportOfRun}
use Rattle.rrun.specs.Scripts.{ScriptFields, IsTextOf}
use Rattle.rrun.specs.declared.run.Run.{Run}
use Rattle.rnlp_cli.specs.declared.explained.Told.{Told}
use Rattle.rnlp_cli.specs.declared.explained.Told.TheVariants as what
use Rattle.rnlp_cli.specs.declared.status.ToolStatus.{ToolStatus}
use Rattle.rnlp_cli.specs.declared.status.ToolStatus.TheVariants as status

-- it is a run of the script in which at least one task was stopped, and the receipt, which only a lock makes, when it is closed,
-- is that of its history
pub record WasStopped (script : ScriptFields) (run : Run) : Type 0 where
  pub some : list_any is_some run.stopped.items ≡ true
  pub report : IsReportOfRun script run.stopped.items run.report
  pub receipt : run.receipt ≡ run.report.entries

-- memory ran out for a run of the script, and it was put aside
pub record IsAside (script : ScriptFields) (after : Option Run) (answer : ToolStatus) : Type 0 where
  pub answered : answer ≡ status.NoMemory
  pub run : Run
  pub there : after ≡ Some run
  pub stopped : WasStopped script run

-- no run was put aside, or that
abbrev pub MayBeAside : ScriptFields → Option Run → Option Run → ToolStatus → Type 0
MayBeAside script before after answer = (after ≡ before) ⊎ IsAside script after answer

-- what is reported about a run of the script that was put aside: for each task, by number, after how many whole sections it was
-- stopped, if it was
abbrev pub told_aside : ScriptFields → Option Run → Option Told → Option Told
told_aside script None before = before
told_aside script (Some run) before = Some (what.Stopped script run.stopped run.receipt)

-- *The stopped tasks are reported*: just those of one run of the script that the input spells, where that is known
pub record AreStoppedTold (left : Option (List ℕ)) (told : Option Told) : Type 0 where
  pub script : ScriptFields
  pub came : IfSome left (λ bytes. IsTextOf bytes script)
  pub run : Run
  pub stopped : WasStopped script run
  pub is : told ≡ Some (what.Stopped script run.stopped run.receipt)
