-- What a run leaves: its text, the receipts, and the watchers, all of one run.
use Rattle.std.specs.Prelude.{◌≡◌, ℕ, List, ◌++◌, Option, IfSome}
use Rattle.io_ends.specs.Ends.{Appends, AppendsPrefix}
use Rattle.rtrace_form.specs.Reports.{Entry, Report}
use Rattle.rrun.specs.Scripts.{ScriptFields, IsScript, IsTextOf}
use Rattle.rwatch.specs.Seen.{Seen}
use Rattle.rnlp_cli.specs.Forms.{HasRun, IsReported, WithoutMemory}
use Rattle.rnlp_cli.specs.declared.command.RunForm.{RunForm}
use Rattle.rnlp_cli.specs.declared.status.ToolStatus.{ToolStatus}
use Rattle.rnlp_cli.specs.declared.status.ToolStatus.TheVariants as status

-- a run in this form was written (`Writes`): it is the run of a script, which the bytes spell where they are known; the
-- receipts have grown by those of its histories, which only a lock makes, when it is closed; and the watchers are those
-- that it leaves
pub record HasWritten (Is : ScriptFields → Report → Type 0) (form : RunForm) (left : Option (List ℕ)) (Writes : List ℕ → Type 0) (receipts receipts_after : List (List Entry)) (watchers watchers_after : List Seen) : Type 0 where
  pub script : ScriptFields
  pub is_script : IsScript script
  pub came : IfSome left (λ bytes. IsTextOf bytes script)
  pub text : List ℕ
  pub written : Writes text
  pub histories : List (List Entry)
  pub more : receipts_after ≡ receipts ++ histories
  pub run : HasRun Is form script watchers text histories watchers_after

-- nothing was handed out, and nobody saw anything
abbrev pub LeavesAll : List (List Entry) → List (List Entry) → List Seen → List Seen → Type 0
LeavesAll receipts receipts_after watchers watchers_after = (receipts_after ≡ receipts) × (watchers_after ≡ watchers)

-- the receipts and the watchers after a run in this form that ended this way, by the input that was left and by what was
-- written
abbrev pub RunLeaves : RunForm → Option (List ℕ) → Option (List ℕ) → Option (List ℕ) → List (List Entry) → List (List Entry) → List Seen → List Seen → ToolStatus → Type 0
RunLeaves form left written written_after receipts receipts_after watchers watchers_after status.Done = HasWritten IsReported form left (Appends written written_after) receipts receipts_after watchers watchers_after
RunLeaves form left written written_after receipts receipts_after watchers watchers_after status.WriteFault = HasWritten IsReported form left (AppendsPrefix written written_after) receipts receipts_after watchers watchers_after
RunLeaves form left written written_after receipts receipts_after watchers watchers_after status.NoMemory = (receipts_after ≡ receipts) × WithoutMemory form watchers watchers_after
RunLeaves form left written written_after receipts receipts_after watchers watchers_after status.Words = LeavesAll receipts receipts_after watchers watchers_after
RunLeaves form left written written_after receipts receipts_after watchers watchers_after status.ReadFault = LeavesAll receipts receipts_after watchers watchers_after
RunLeaves form left written written_after receipts receipts_after watchers watchers_after status.Script = LeavesAll receipts receipts_after watchers watchers_after
RunLeaves form left written written_after receipts receipts_after watchers watchers_after status.TooLong = LeavesAll receipts receipts_after watchers watchers_after
RunLeaves form left written written_after receipts receipts_after watchers watchers_after status.Trace = LeavesAll receipts receipts_after watchers watchers_after
