-- Records without a fault spell what they have said together.
use Rattle.std.proofs.Common.{◌≡◌, List, [], ◌∷◌, fold, Some, None, refl, sym, ap, subst, ◌∙◌}
use Rattle.std.specs.List.{AllZip}
use Rattle.std.proofs.lemmas.Bool.{eqb-true}
use Rattle.rtrace_form.specs.Records.{Row}
use Rattle.rtrace_form.specs.Walks.{AllClean}
use Rattle.rtrace_form.proofs.facts.Walks.{no_fault}
use Rattle.rscript.specs.Lines.{Line, meaning, names_of}
use Rattle.rscript.specs.declared.code.ScriptCode.TheVariants.{NoEnd}
use Rattle.rscript.specs.Scripts.{Spells}
use Rattle.rscript.specs.SoFar.{SoFar, nothing_yet, told_in, with_line, with_meaning, with_row}
use Rattle.rscript.specs.Faults.{code_of, is_ended, first_fault, read_all}
use Rattle.rscript.proofs.facts.Fine.{AllNext}
use Rattle.rscript.proofs.facts.Said.{clean}
use Rattle.rscript.proofs.forth.Lines.{AreLines, lines_spell}
use Rattle.rscript.proofs.forth.Names.{means_same, final_resources}

-- each record says the line at its place, by the names that were declared before it
abbrev pub SayInTurn : SoFar → List Row → List Line → Type 0
SayInTurn s [] [] = Unit {0}
SayInTurn s [] (line ∷ lines) = ⊥
SayInTurn s (row ∷ rows) [] = ⊥
SayInTurn s (row ∷ rows) (line ∷ lines) = (meaning (names_of s.resources) row ≡ Some line) × SayInTurn (with_line s line) rows lines

-- what records without a fault have said
pub record HaveSaid (s : SoFar) (rows : List Row) : Type 0 where
  pub lines : List Line
  pub said : SayInTurn s rows lines
  pub next : AllNext s lines
  pub leads : fold with_row s rows ≡ fold with_line s lines

pub row_leads : (s : SoFar) (row : Row) (line : Line) → meaning (names_of s.resources) row ≡ Some line → with_row s row ≡ with_line s line
unfolding with_row
row_leads s row line means = ap (with_meaning s) means

rows_said : (s : SoFar) (rows : List Row) → AllClean code_of with_row s rows → HaveSaid s rows
rows_said s [] all = record { lines = []; said = tt; next = tt; leads = refl }
rows_said s (row ∷ rows) all =
    let c = clean s row all.0 in
    let leads = row_leads s row c.line c.means in
    let rest = rows_said (with_line s c.line) rows (subst (λ (t : SoFar). AllClean code_of with_row t rows) leads all.1) in
    record {
      lines = c.line ∷ rest.lines;
      said = (c.means, rest.said);
      next = (c.next, rest.next);
      leads = ap (λ (t : SoFar). fold with_row t rows) leads ∙ rest.leads;
    }

-- and by all names that are there in the end
said_by_all : (s : SoFar) (rows : List Row) (lines : List Line) → SayInTurn s rows lines → AllNext s lines
    → AllZip (λ row line. meaning (names_of (fold with_line s lines).resources) row ≡ Some line) rows lines
said_by_all s [] [] said next = tt
said_by_all s [] (line ∷ lines) said next = absurd said
said_by_all s (row ∷ rows) [] said next = absurd said
said_by_all s (row ∷ rows) (line ∷ lines) said next =
    let then = with_line s line in
    let all = fold with_line then lines in
    (means_same s s.resources all.resources row line (final_resources s line lines next.1) said.0, said_by_all then rows lines said.1 next.1)

spell_of : (rows : List Row) (said : HaveSaid nothing_yet rows) → AreLines (fold with_line nothing_yet said.lines) said.lines → Spells rows (told_in (fold with_line nothing_yet said.lines))
spell_of rows said are =
    let s = fold with_line nothing_yet said.lines in
    record {
      said = subst (λ (lines : List Line). AllZip (λ row line. meaning (names_of s.resources) row ≡ Some line) rows lines) are.are (said_by_all nothing_yet rows said.lines said.said said.next);
      script = are.script;
    }

pub spells : (rows : List Row) → first_fault rows ≡ None → Spells rows (told_in (read_all rows))
spells rows h =
    let parts = no_fault code_of with_row is_ended NoEnd 1 nothing_yet rows h in
    let said = rows_said nothing_yet rows parts.0 in
    let five : (fold with_line nothing_yet said.lines).last ≡ 5 = ap (λ (s : SoFar). s.last) (sym said.leads) ∙ eqb-true (read_all rows).last 5 parts.1 in
    let are = lines_spell said.lines said.next five in
    subst (λ (s : SoFar). Spells rows (told_in s)) (sym said.leads) (spell_of rows said are)
