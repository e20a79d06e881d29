-- A text spells one script at most.
use Rattle.std.proofs.Common.{◌≡◌, ℕ, List, sym, subst, ◌∙◌}
use Rattle.csv.specs.Reading.{default_config, strip_bom}
use Rattle.csv.specs.declared.parser.State.TheVariants as st
use Rattle.rtrace_form.specs.Records.{Row}
use Rattle.rtrace_form.proofs.texts.Records.{rows_unique}
use Rattle.rscript.specs.Scripts.{ScriptFields, Spells, IsTextOf}
use Rattle.rscript.proofs.back.Rows.{spelled_clean}

one_spelled : (rows : List Row) (p q : ScriptFields) → Spells rows p → Spells rows q → p ≡ q
one_spelled rows p q one two = sym (spelled_clean rows p one).1 ∙ (spelled_clean rows q two).1

pub one_told : (bytes : List ℕ) (p q : ScriptFields) → IsTextOf bytes p → IsTextOf bytes q → p ≡ q
one_told bytes p q one two =
    let same = rows_unique default_config st.StartRecord (strip_bom bytes) one.0 two.0 one.1 two.1 in
    one_spelled two.0 p q (subst (λ (rows : List Row). Spells rows p) same one.2) two.2
