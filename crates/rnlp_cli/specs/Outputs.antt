-- What the commands write, for which inputs, and when they refuse an input.
use Rattle.std.specs.Prelude.{◌≡◌, ℕ, Bool, true, false, ⊤, List, [], ◌∷◌, length, map, Option, Some, None, codes, decimal}
use Rattle.rtrace_form.specs.Reports.{Entry, Report}
use Rattle.rtrace_form.specs.Takers.{IsFirstFault}
use Rattle.rtrace_form.specs.Texts.{IsTextOf, line_text, report_text, text_of}
use Rattle.rtrace_form.specs.Waits.{all_ended}
use Rattle.rtrace_form.specs.declared.fault.Code.{Code}
use Rattle.rtrace_form.specs.declared.fault.Fault.{Fault}
use Rattle.rmodel.specs.Steps.{after}
use Rattle.rnlp_cli.specs.BoundText.{bounds_text}
use Rattle.rnlp_cli.specs.Forms.{HasRun, IsReported}
use Rattle.rtrace_write.specs.ErrorLine.{error_line}
use Rattle.rscript.specs.Codes.{code_number}
use Rattle.rscript.specs.declared.code.ScriptCode as script_code
use Rattle.rscript.specs.Scripts.{ScriptFields}
use Rattle.rscript.specs.Scripts as scripts
use Rattle.rscript.specs.Texts as scripts_read
use Rattle.rwatch.specs.Seen.{Seen, told_all}
use Rattle.rdrill.specs.Draws.{drill_opening}
use Rattle.rdrill.specs.Drill.{drill_events}
use Rattle.rmodel.specs.Watching.{steps_of}
use Rattle.rdrill.specs.Summary.{summary_text}
use Rattle.rnlp_cli.specs.declared.command.Command.{Command}
use Rattle.rnlp_cli.specs.declared.command.Command.TheVariants.{Run, Replay, Audit, Bound, Drill}
use Rattle.rnlp_cli.specs.declared.status.ToolStatus.{ToolStatus}
use Rattle.rnlp_cli.specs.declared.status.ToolStatus.TheVariants as status

-- ---- inputs

-- the most bytes that an event list may have: 64 times 2^20
abbrev pub list_limit : ℕ
list_limit = 67108864

-- the most bytes that an audited report may have: 16 times 2^30
abbrev pub report_limit : ℕ
report_limit = 17179869184

-- the most bytes that a script may have: 2^20
abbrev pub script_limit : ℕ
script_limit = 1048576

-- the most bytes that an input of a command may have, if it reads one
abbrev pub limit_of : Option Command → Option ℕ
limit_of None = None
limit_of (Some (Run form)) = Some script_limit
limit_of (Some Replay) = Some list_limit
limit_of (Some Audit) = Some report_limit
limit_of (Some (Bound cap)) = Some script_limit
limit_of (Some (Drill count)) = None

-- whether the input of a command is checked while it is read, and never held whole: only that of an audit
abbrev pub is_streamed : Command → Bool
is_streamed (Run form) = false
is_streamed Replay = false
is_streamed Audit = true
is_streamed (Bound cap) = false
is_streamed (Drill count) = false

abbrev pub input_within : Option ℕ → Option (List ℕ) → Option (List ℕ)
input_within None left = Some []
input_within (Some limit) left = left

-- the input of a command: what the source has left, or nothing for a command that reads none
abbrev pub input_of : Option Command → Option (List ℕ) → Option (List ℕ)
input_of asked left = input_within (limit_of asked) left

-- the bytes are an input of the command: `run` and `bound` take scripts, `replay` event lists and `audit` reports
abbrev pub IsInput : Option Command → List ℕ → Type 0
IsInput None bytes = ⊥
IsInput (Some (Run form)) bytes = (script : ScriptFields) × scripts.IsTextOf bytes script
IsInput (Some Replay) bytes = (report : Report) × IsTextOf false bytes report
IsInput (Some Audit) bytes = (report : Report) × IsTextOf true bytes report
IsInput (Some (Bound cap)) bytes = (script : ScriptFields) × scripts.IsTextOf bytes script
IsInput (Some (Drill count)) bytes = ⊤

-- ---- outputs

-- what is written about an audited report: how many events it has, and how many waits they ended
abbrev pub audit_text : ℕ → ℕ → List ℕ
audit_text events waits = text_of ((codes "audit" ∷ decimal events ∷ decimal waits ∷ []) ∷ (codes "end" ∷ []) ∷ [])

-- the watchers of a drill, once it is over
abbrev pub told_drill : ℕ → List Seen → List Seen
told_drill count watchers = map (told_all (steps_of drill_opening (drill_events count))) watchers

-- what is written about a drill: what each watcher has then counted, and how the lock is left
abbrev pub drill_text : ℕ → List Seen → List ℕ
drill_text count watchers = summary_text count (told_drill count watchers) (after drill_opening (drill_events count))

-- an output of a command for this input, where these watchers are passed in: `run` writes what its form writes of a run
-- of the script that the bytes spell, `replay` the report of the list they spell, `audit` how many events the report they
-- spell has and how many waits those ended, `bound` the bounds of the script they spell, and `drill` the summary of its
-- events
abbrev pub IsOutput : List Seen → Option Command → List ℕ → List ℕ → Type 0
IsOutput watchers None bytes text = ⊥
IsOutput watchers (Some (Run form)) bytes text =
    (script : ScriptFields) × (histories : List (List Entry)) × (after : List Seen) × scripts.IsTextOf bytes script × HasRun IsReported form script watchers text histories after
IsOutput watchers (Some Replay) bytes text = (report : Report) × IsTextOf false bytes report × (text ≡ report_text report)
IsOutput watchers (Some Audit) bytes text = (report : Report) × IsTextOf true bytes report × (text ≡ audit_text (length report.entries) (length (all_ended report.head report.entries)))
IsOutput watchers (Some (Bound cap)) bytes text = (script : ScriptFields) × scripts.IsTextOf bytes script × (text ≡ bounds_text script cap)
IsOutput watchers (Some (Drill count)) bytes text = text ≡ drill_text count watchers

-- ---- refusals

-- the line that is written about an input whose record at this line has this fault of a script
abbrev pub script_line : ℕ → script_code.ScriptCode → List ℕ
script_line line code = line_text (codes "error" ∷ decimal line ∷ decimal (code_number code) ∷ [])

-- the line of the first fault of an input: as a script, as an event list or as a report
abbrev pub IsFaultLine : Option Command → List ℕ → List ℕ → Type 0
IsFaultLine None bytes text = ⊥
IsFaultLine (Some (Run form)) bytes text = (line : ℕ) × (code : script_code.ScriptCode) × scripts_read.IsFirstFault bytes line code × (text ≡ script_line line code)
IsFaultLine (Some Replay) bytes text = (fault : Fault Code) × IsFirstFault false bytes fault × (text ≡ error_line fault)
IsFaultLine (Some Audit) bytes text = (fault : Fault Code) × IsFirstFault true bytes fault × (text ≡ error_line fault)
IsFaultLine (Some (Bound cap)) bytes text = (line : ℕ) × (code : script_code.ScriptCode) × scripts_read.IsFirstFault bytes line code × (text ≡ script_line line code)
IsFaultLine (Some (Drill count)) bytes text = ⊥

-- the status with which a command refuses an input
abbrev pub refusal_of : Option Command → Option ToolStatus
refusal_of None = None
refusal_of (Some (Run form)) = Some status.Script
refusal_of (Some Replay) = Some status.Trace
refusal_of (Some Audit) = Some status.Trace
refusal_of (Some (Bound cap)) = Some status.Script
refusal_of (Some (Drill count)) = None
