-- A text spells one report at most.
use Rattle.std.proofs.Common.{◌≡◌, List, ℕ, Bool, sym, subst, ◌∙◌}
use Rattle.csv.specs.Reading.{default_config, strip_bom}
use Rattle.csv.specs.declared.parser.State.TheVariants as st
use Rattle.rtrace_form.specs.Records.{Row}
use Rattle.rtrace_form.specs.Reports.{Report, Spells}
use Rattle.rtrace_form.specs.Texts.{IsTextOf}
use Rattle.rtrace_form.proofs.back.Rows.{spelled_clean}
use Rattle.rtrace_form.proofs.texts.Records.{rows_unique}

pub one_spelled : (whole : Bool) (rows : List Row) (r q : Report) → Spells whole rows r → Spells whole rows q → r ≡ q
one_spelled whole rows r q one two = sym (spelled_clean whole rows r one).1 ∙ (spelled_clean whole rows q two).1

pub one_told : (whole : Bool) (bytes : List ℕ) (r q : Report) → IsTextOf whole bytes r → IsTextOf whole bytes q → r ≡ q
one_told whole bytes r q one two =
    let same = rows_unique default_config st.StartRecord (strip_bom bytes) one.0 two.0 one.1 two.1 in
    one_spelled whole two.0 r q (subst (λ (rows : List Row). Spells whole rows r) same one.2) two.2
