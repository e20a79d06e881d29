-- The lines that are due by what a reader keeps, as they are reported to the user.
use Rattle.std.specs.Prelude.{ℕ, List, ◌++◌, map, Option, option_map, slice_get}
use Rattle.rclaim.specs.Changes.{ChangeLists}
use Rattle.rclaim.specs.declared.changes.GrantChange.{GrantChange}
use Rattle.rclaim.specs.declared.changes.StatusChange.{StatusChange}
use Rattle.rcover_laws.specs.declared.wait_end.WaitEnd.{WaitEnd}
use Rattle.rvalue.specs.declared.ledger.Ledger.{Ledger}
use Rattle.rtrace_form.specs.Fields.{Names}
use Rattle.rtrace_form.specs.Lines.{Leaves}
use Rattle.rtrace_form.specs.Reports.{grant_line, status_lines}
use Rattle.rtrace_form.specs.Waits.{stage_of, cover_of}
use Rattle.rtrace_write.specs.Told.{told, told_line}
use Rattle.rnlp_cli.specs.Due.{cover_line}

-- the line of a wait up to its bound
abbrev pub wait_text : Names → WaitEnd → List ℕ
wait_text names w = cover_line names w.seat (stage_of w.which) (cover_of w)

-- the lines of changes, first those of statuses and then those of grants, and after them those of waits
abbrev pub due_texts : Names → ChangeLists → List WaitEnd → List (List ℕ)
due_texts names changes ended =
    map (λ (c : StatusChange). told names (status_lines c.seat c.write_half c.status)) changes.statuses
    ++ (map (λ (g : GrantChange). told_line names (grant_line g)) changes.grants ++ map (wait_text names) ended)

-- the line of the ledger at a place, if there is one
abbrev pub ledger_text : Names → List Ledger → ℕ → Option (List ℕ)
ledger_text names ledgers place = option_map (λ (ledger : Ledger). told_line names (Leaves place ledger)) (slice_get ledgers place)
