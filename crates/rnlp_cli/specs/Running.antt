-- How a run of a script ended, for the parts of the tools only.
use Rattle.std.specs.Prelude.{◌≡◌, ℕ, List, ◌++◌, Option}
use Rattle.io_ends.specs.Ends.{Appends, AppendsPrefix}
use Rattle.rtrace_form.specs.Reports.{Entry}
use Rattle.rscript.specs.Scripts.{ScriptFields}
use Rattle.rwatch.specs.Seen.{Seen}
use Rattle.rnlp_cli.specs.Forms.{HasRun, IsReported, WithoutMemory}
use Rattle.rnlp_cli.specs.declared.command.RunForm.{RunForm}
use Rattle.rnlp_cli.specs.declared.status.ToolStatus.{ToolStatus}
use Rattle.rnlp_cli.specs.declared.status.ToolStatus.TheVariants as status

-- a run of the script was written in this form (`Writes`), and there are the receipts of its histories and the watchers
-- that it leaves
abbrev pub IsRunWritten : RunForm → ScriptFields → (List ℕ → Type 0) → List (List Entry) → List (List Entry) → List Seen → List Seen → Type 0
IsRunWritten form script Writes receipts receipts_after watchers watchers_after =
    (text : List ℕ) × (histories : List (List Entry)) × HasRun IsReported form script watchers text histories watchers_after × Writes text × (receipts_after ≡ receipts ++ histories)

-- how the run of a script ended: `quiet`, `failed` and `same` say about the sink what they say for any output
abbrev pub IsRun : RunForm → ScriptFields → Option (List ℕ) → Option (List ℕ) → Type 0 → Type 0 → Type 0 → List (List Entry) → List (List Entry) → List Seen → List Seen → ToolStatus → Type 0
IsRun form script before after quiet failed same receipts receipts_after watchers watchers_after status.Done = quiet × IsRunWritten form script (Appends before after) receipts receipts_after watchers watchers_after
IsRun form script before after quiet failed same receipts receipts_after watchers watchers_after status.WriteFault = failed × IsRunWritten form script (AppendsPrefix before after) receipts receipts_after watchers watchers_after
IsRun form script before after quiet failed same receipts receipts_after watchers watchers_after status.NoMemory = same × (receipts_after ≡ receipts) × WithoutMemory form watchers watchers_after
IsRun form script before after quiet failed same receipts receipts_after watchers watchers_after status.Words = ⊥
IsRun form script before after quiet failed same receipts receipts_after watchers watchers_after status.ReadFault = ⊥
IsRun form script before after quiet failed same receipts receipts_after watchers watchers_after status.Script = ⊥
IsRun form script before after quiet failed same receipts receipts_after watchers watchers_after status.TooLong = ⊥
IsRun form script before after quiet failed same receipts receipts_after watchers watchers_after status.Trace = ⊥
