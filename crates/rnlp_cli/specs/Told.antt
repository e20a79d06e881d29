-- What may be reported to the user beyond a status.
use Rattle.std.specs.Prelude.{◌≡◌, ◌⊎◌, ℕ, true, false, List, [], ◌∷◌, Option, Some, None, IfSome, option_map, string_bytes}
use Rattle.rtrace_form.specs.Takers.{IsFirstFault}
use Rattle.rtrace_form.specs.declared.fault.Code.{Code}
use Rattle.rtrace_form.specs.declared.fault.Fault.{Fault}
use Rattle.rscript.specs.declared.code.ScriptCode as script_code
use Rattle.rscript.specs.Texts as scripts_read
use Rattle.rwatch.specs.Seen.{Seen}
use Rattle.rnlp_cli.specs.declared.command.Command.{Command}
use Rattle.rnlp_cli.specs.declared.command.Command.TheVariants.{Run, Replay, Audit, Bound, Drill}
use Rattle.rnlp_cli.specs.declared.status.ToolStatus.{ToolStatus}
use Rattle.rnlp_cli.specs.declared.status.ToolStatus.TheVariants as status
use Rattle.rnlp_cli.specs.declared.explained.Told.{Told}
use Rattle.rnlp_cli.specs.declared.explained.Told.TheVariants as what
use Rattle.rnlp_cli.specs.Due.{IsDueFor}
use Rattle.rnlp_cli.specs.Stopping.{AreStoppedTold}

-- the fault of a list or a report that is reported
abbrev pub told_fault : Option Told → Option (Fault Code)
told_fault None = None
told_fault (Some what.Steps) = None
told_fault (Some (what.List fault expected)) = Some fault
told_fault (Some (what.Script line code)) = None
told_fault (Some (what.Stopped script sections receipt)) = None

-- the line that is reported as due there, if there is one
abbrev pub told_due : Option Told → Option (List ℕ)
told_due None = None
told_due (Some what.Steps) = None
told_due (Some (what.List fault expected)) = option_map string_bytes expected
told_due (Some (what.Script line code)) = None
told_due (Some (what.Stopped script sections receipt)) = None

-- the first fault of an input is reported: of a script; of an event list, with no due line; or of a report, with the
-- line that was due there, if there is one
abbrev pub IsFaultTold : Option Command → List ℕ → Option Told → Type 0
IsFaultTold None bytes told = ⊥
IsFaultTold (Some (Run form)) bytes told = (line : ℕ) × (code : script_code.ScriptCode) × scripts_read.IsFirstFault bytes line code × (told ≡ Some (what.Script line code))
IsFaultTold (Some Replay) bytes told = (fault : Fault Code) × IsFirstFault false bytes fault × (told ≡ Some (what.List fault None))
IsFaultTold (Some Audit) bytes told = (fault : Fault Code) × IsFirstFault true bytes fault × (told_fault told ≡ Some fault) × IsDueFor fault.code bytes fault (told_due told)
IsFaultTold (Some (Bound cap)) bytes told = (line : ℕ) × (code : script_code.ScriptCode) × scripts_read.IsFirstFault bytes line code × (told ≡ Some (what.Script line code))
IsFaultTold (Some (Drill count)) bytes told = ⊥

-- what is reported once an output was written, whole or a front part: that the steps of a list were shown, if somebody
-- watched its replay
abbrev pub told_behind : Option Command → List Seen → Option Told → Option Told
told_behind None watchers before = before
told_behind (Some (Run form)) watchers before = before
told_behind (Some Replay) [] before = before
told_behind (Some Replay) (w ∷ ws) before = Some what.Steps
told_behind (Some Audit) watchers before = before
told_behind (Some (Bound cap)) watchers before = before
told_behind (Some (Drill count)) watchers before = before

-- what is reported where memory ran out: nothing more than `before`, or for a run in which tasks were stopped, which of them were
abbrev pub TellsStopped : Option Command → Option (List ℕ) → Option Told → Option Told → Type 0
TellsStopped None left before after = after ≡ before
TellsStopped (Some (Run form)) left before after = (after ≡ before) ⊎ AreStoppedTold left after
TellsStopped (Some Replay) left before after = after ≡ before
TellsStopped (Some Audit) left before after = after ≡ before
TellsStopped (Some (Bound cap)) left before after = after ≡ before
TellsStopped (Some (Drill count)) left before after = after ≡ before

-- what is reported about a command that ended this way, for the input that was left: `behind` once an output was
-- written, the first fault of an input that was refused, where memory ran out which tasks of a run were stopped, if some were,
-- and otherwise nothing more than `before`
abbrev pub TellsBehind : Option Told → Option Command → Option (List ℕ) → Option Told → Option Told → ToolStatus → Type 0
TellsBehind behind asked left before after status.Done = after ≡ behind
TellsBehind behind asked left before after status.WriteFault = after ≡ behind
TellsBehind behind asked left before after status.Script = IfSome left (λ bytes. IsFaultTold asked bytes after)
TellsBehind behind asked left before after status.Trace = IfSome left (λ bytes. IsFaultTold asked bytes after)
TellsBehind behind asked left before after status.Words = after ≡ before
TellsBehind behind asked left before after status.ReadFault = after ≡ before
TellsBehind behind asked left before after status.TooLong = after ≡ before
TellsBehind behind asked left before after status.NoMemory = TellsStopped asked left before after

-- the same where these watchers are passed in
abbrev pub Tells : List Seen → Option Command → Option (List ℕ) → Option Told → Option Told → ToolStatus → Type 0
Tells watchers asked left before after answer = TellsBehind (told_behind asked watchers before) asked left before after answer
