-- The three parts of a report's text.
use Rattle.std.specs.Prelude.{◌≡◌, ℕ, true, List, [], ◌∷◌, ◌++◌, Some}
use Rattle.rtrace_form.specs.Heads.{names_of}
use Rattle.rtrace_form.specs.Lines.{Ends}
use Rattle.rtrace_form.specs.Reports.{Report, head_lines, history_lines, ledger_lines}
use Rattle.rtrace_form.specs.Waits.{bound_in}
use Rattle.rtrace_write.specs.Told.{told}

-- these are the text of its head, with its cap, that of its history, and that of its ledgers and its end
pub record ArePartsOf (report : Report) (head history ending : List ℕ) : Type 0 where
  pub is_head : head ≡ told (names_of report.head) (head_lines report.head (Some report.head.cap))
  pub is_history : history ≡ told (names_of report.head) (history_lines true (bound_in report.head report.entries) report.head [] report.entries)
  pub is_ending : ending ≡ told (names_of report.head) (ledger_lines true report.head report.entries ++ Ends ∷ [])
