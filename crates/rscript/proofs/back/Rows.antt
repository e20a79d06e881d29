-- Records that spell a script have no fault.
use Rattle.std.proofs.Common.{◌≡◌, ℕ, List, [], ◌∷◌, fold, Some, None, refl, sym, ap, subst, ◌∙◌}
use Rattle.std.specs.List.{AllZip}
use Rattle.rtrace_form.specs.Records.{Row}
use Rattle.rtrace_form.specs.Walks.{AllClean}
use Rattle.rtrace_form.proofs.facts.Walks.{clean_none}
use Rattle.rscript.specs.Lines.{Line, meaning, names_of}
use Rattle.rscript.specs.declared.code.ScriptCode.TheVariants.{NoEnd}
use Rattle.rscript.specs.Scripts.{ScriptFields, Spells, lines_of}
use Rattle.rscript.specs.SoFar.{SoFar, nothing_yet, told_in, with_line, with_row}
use Rattle.rscript.specs.Faults.{code_of, is_ended, first_fault, read_all}
use Rattle.rscript.proofs.facts.Fine.{AllNext}
use Rattle.rscript.proofs.forth.Names.{means_same, final_resources}
use Rattle.rscript.proofs.forth.Rows.{row_leads}
use Rattle.rscript.proofs.back.Codes.{no_code}
use Rattle.rscript.proofs.back.TaskRuns.{script_run}

-- where records lead
record AreClean (s : SoFar) (rows : List Row) (lines : List Line) : Type 0 where
  pub clean : AllClean code_of with_row s rows
  pub leads : fold with_row s rows ≡ fold with_line s lines

rows_clean : (resources : List (List ℕ)) (s : SoFar) (rows : List Row) (lines : List Line) → AllZip (λ row line. meaning (names_of resources) row ≡ Some line) rows lines → AllNext s lines
    → (fold with_line s lines).resources ≡ resources → AreClean s rows lines
rows_clean resources s [] [] said next final = record { clean = tt; leads = refl }
rows_clean resources s [] (line ∷ lines) said next final = absurd said
rows_clean resources s (row ∷ rows) [] said next final = absurd said
rows_clean resources s (row ∷ rows) (line ∷ lines) said next final =
    let then = with_line s line in
    let means : meaning (names_of s.resources) row ≡ Some line = means_same s resources s.resources row line (λ far. sym (final_resources s line lines next.1 far ∙ final)) said.0 in
    let leads = row_leads s row line means in
    let rest = rows_clean resources then rows lines said.1 next.1 final in
    record {
      clean = (no_code s row line means next.0, subst (λ (t : SoFar). AllClean code_of with_row t rows) (sym leads) rest.clean);
      leads = ap (λ (t : SoFar). fold with_row t rows) leads ∙ rest.leads;
    }

-- records that spell a script have no fault, and it is what they have said together
pub spelled_clean : (rows : List Row) (p : ScriptFields) → Spells rows p → (first_fault rows ≡ None) × (told_in (read_all rows) ≡ p)
spelled_clean rows p h =
    let run = script_run p h.script in
    let final : (fold with_line nothing_yet (lines_of p)).resources ≡ p.resources = ap (λ (s : SoFar). s.resources) run.runs.leads ∙ ap (λ (q : ScriptFields). q.resources) run.told in
    let all = rows_clean p.resources nothing_yet rows (lines_of p) h.said run.runs.next final in
    let ended = all.leads ∙ run.runs.leads in
    (clean_none code_of with_row is_ended NoEnd 1 nothing_yet rows all.clean (ap is_ended ended ∙ run.ended), ap told_in ended ∙ run.told)
