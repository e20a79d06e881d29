-- The text of lines.
use Rattle.std.specs.Prelude.{ℕ, ◌+◌, List, [], ◌∷◌, ◌++◌, map}
use Rattle.rclaim.specs.Changes.{ChangeLists}
use Rattle.rcover_laws.specs.declared.wait_end.WaitEnd.{WaitEnd}
use Rattle.rvalue.specs.declared.ledger.Ledger.{Ledger}
use Rattle.rtrace_form.specs.Fields.{Names}
use Rattle.rtrace_form.specs.Lines.{Line, Happens, Does, Leaves, spelled}
use Rattle.rtrace_form.specs.Reports.{Entry, told_changes, wait_line}
use Rattle.rtrace_form.specs.Texts.{line_text, text_of}
use Rattle.rtrace_form.specs.Waits.{no_bounds}

-- the text of one line, by these names
abbrev pub told_line : Names → Line → List ℕ
told_line names line = line_text (spelled names line)

-- the text of lines, one after another
abbrev pub told : Names → List Line → List ℕ
told names lines = text_of (map (spelled names) lines)

-- the lines of what an event changed and of the waits that it ended, without bounds yet
abbrev pub step_told : ChangeLists → List WaitEnd → List Line
step_told changes ended = told_changes changes ++ map (wait_line no_bounds) ended

-- the lines of an entry, whose event made these changes and ended these waits
abbrev pub entry_told : Entry → ChangeLists → List WaitEnd → List Line
entry_told entry changes ended = Happens entry.event ∷ (map Does entry.acts ++ step_told changes ended)

-- the lines of ledgers, those of the resources from this number on
abbrev pub leaves_from : ℕ → List Ledger → List Line
leaves_from l [] = []
leaves_from l (ledger ∷ ledgers) = Leaves l ledger ∷ leaves_from (l + 1) ledgers
