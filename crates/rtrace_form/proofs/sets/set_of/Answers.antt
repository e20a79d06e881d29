use Rattle.std.proofs.Common.{◌≡◌, Some, None, length, sym, ap, ◌∙◌}
use Rattle.std.specs.Prelude.{option_and_then}
use Rattle.std.specs.FinSet.{empty, insert}
use Rattle.rtrace_form.specs.SetFields.{set_told}
use Rattle.rset.proofs.SetLemmas.{all_below_empty, all_below_insert}
use Rattle.rtrace_form.proofs.SetNames.{set_told-nothing, set_told-one}
use Rattle.rtrace_form.proofs.sets.set_of.Goals as goal

pub returns-then-eq-clause-value : goal.returns-then-eq-clause-value
returns-then-eq-clause-value c =
    let nothing = set_told-nothing c.args.names.now c.args.field.now _ c.as_slice.ensures (sym c.eq.ensures ∙ c.if-eq.true) in
    cc

pub returns-then-eq-clause-below : goal.returns-then-eq-clause-below
returns-then-eq-clause-below c = rw c.empty.ensures (all_below_empty _)

pub returns-in_err-number_of-clause-value : goal.returns-in_err-number_of-clause-value
returns-in_err-number_of-clause-value c =
    let none : set_told c.args.names.now c.args.field.now ≡ None =
    set_told-one c.args.names.now c.args.field.now _ c.as_slice.ensures (sym c.eq.ensures ∙ c.if-eq.false) (sym c.is_joined.ensures ∙ c.if-is_joined.false)
    ∙ ap (option_and_then (λ n. Some (insert empty n))) (sym c.in_err-number_of.ensures.value) in
    cc

pub returns-clause-value : goal.returns-clause-value
returns-clause-value c =
    let one = set_told-one c.args.names.now c.args.field.now _ c.as_slice.ensures (sym c.eq.ensures ∙ c.if-eq.false) (sym c.is_joined.ensures ∙ c.if-is_joined.false) in
    ap Some c.one.ensures ∙ sym (one ∙ ap (option_and_then (λ n. Some (insert empty n))) (sym c.in_ok-number_of.ensures.value))

pub returns-clause-below : goal.returns-clause-below
returns-clause-below c = rw c.one.ensures (all_below_insert (length c.args.names.now) empty c.in_ok-number_of.field-0 (all_below_empty _) c.in_ok-number_of.ensures.below)
