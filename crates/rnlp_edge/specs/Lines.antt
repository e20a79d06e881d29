-- The lines that are reported to the user on standard error.
use Rattle.std.specs.Prelude.{ℕ, ◌+◌, Bool, true, false, List, [], ◌∷◌, ◌++◌, length, slice_get, Option, Some, None, option_map, codes, decimal, flat_map, string_bytes}
use Rattle.std.specs.List.{range_with_len}
use Rattle.rtrace_form.specs.declared.fault.Code.{Code}
use Rattle.rtrace_form.specs.declared.fault.Code.TheVariants as list
use Rattle.rtrace_form.specs.SetFields.{name_at}
use Rattle.rnlp_cli.specs.declared.status.ToolStatus.{ToolStatus}
use Rattle.rnlp_cli.specs.declared.explained.Told.{Told}
use Rattle.rnlp_cli.specs.declared.explained.Told.TheVariants as what
use Rattle.rscript.specs.Codes.{code_number}
use Rattle.rscript.specs.declared.code.ScriptCode.{ScriptCode}
use Rattle.rwatch.specs.Seen.{Seen}
use Rattle.rnlp_edge.specs.Meanings.{status_meaning, kind_word, script_meaning, list_meaning, refusal_meaning}

-- the line of a meaning, if there is one
abbrev pub meaning_line : Option (List ℕ) → List ℕ
meaning_line None = []
meaning_line (Some meaning) = codes "rnlp: " ++ (meaning ++ 10 ∷ [])

-- what is wrong with a record, which is named by its number
abbrev pub record_line : ℕ → List ℕ → List ℕ
record_line number text = codes "rnlp: record " ++ (decimal number ++ (codes ": " ++ (text ++ 10 ∷ [])))

-- what a watcher has counted
abbrev pub watcher_line : Seen → List ℕ
watcher_line w = codes "rnlp: " ++ (kind_word w.kind ++ (codes " " ++ (decimal w.count ++ 10 ∷ [])))

-- what the watchers have counted, if a terminal shows it
abbrev pub counts_shown : Bool → List Seen → List ℕ
counts_shown false watchers = []
counts_shown true watchers = flat_map watcher_line watchers

-- why an event is refused, after what is wrong with it; empty for any other fault
abbrev pub cause_text : Code → List ℕ
cause_text (list.Refused cause) = codes ": " ++ refusal_meaning cause
cause_text list.BadField = []
cause_text list.UnknownName = []
cause_text list.BadOrder = []
cause_text list.WrongChange = []
cause_text list.WrongShow = []
cause_text list.WrongLedger = []
cause_text list.NoEnd = []
cause_text list.WrongBound = []

-- what is wrong with a record of a list or a report
abbrev pub fault_text : Code → List ℕ
fault_text code = list_meaning code ++ cause_text code

-- what is wrong with a record of a script, and the number of its code
abbrev pub script_text : ScriptCode → List ℕ
script_text code = script_meaning code ++ (codes " (code " ++ (decimal (code_number code) ++ codes ")"))

-- the line that was due where another one stands, if it is known
abbrev pub expected_line : Option (List ℕ) → List ℕ
expected_line None = []
expected_line (Some line) = codes "rnlp: expected: " ++ (line ++ 10 ∷ [])

-- the line of a task that was stopped after so many whole sections: it was in the one after them; no line for a task that is
-- complete
abbrev pub stopped_line : List ℕ → Option (Option ℕ) → List ℕ
stopped_line name None = []
stopped_line name (Some None) = []
stopped_line name (Some (Some sections)) = codes "rnlp: task " ++ (name ++ (codes " was stopped in section " ++ (decimal (sections + 1) ++ codes ": out of memory\n")))

-- the lines of those of the tasks with these names that were stopped, in order
abbrev pub stopped_lines : List (List ℕ) → List (Option ℕ) → List ℕ
stopped_lines names sections = flat_map (λ task. stopped_line (name_at names task) (slice_get sections task)) (range_with_len 0 (length names))

-- the lines to report: what the status means, with what was counted of steps that were shown, or which tasks were stopped in
-- which sections; or in place of the status what is wrong with the input, and which line was due there
abbrev pub told_lines : List Seen → Bool → ToolStatus → Option Told → List ℕ
told_lines watchers terminal status None = meaning_line (status_meaning status)
told_lines watchers terminal status (Some what.Steps) = meaning_line (status_meaning status) ++ counts_shown terminal watchers
told_lines watchers terminal status (Some (what.List fault expected)) = record_line fault.line (fault_text fault.code) ++ expected_line (option_map string_bytes expected)
told_lines watchers terminal status (Some (what.Script line code)) = record_line line (script_text code)
told_lines watchers terminal status (Some (what.Stopped script sections receipt)) = meaning_line (status_meaning status) ++ stopped_lines script.tasks sections.items
