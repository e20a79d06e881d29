use Rattle.std.proofs.Common.{cond, nat_le, Some, None, sym, ap, ◌∙◌, arith}
use Rattle.std.specs.Prelude.{option_and_then}
use Rattle.std.proofs.lemmas.Bool.{le-leb, lt-leb}
use Rattle.rclaim.specs.declared.TheConstants.{LENGTH_LIMIT}
use Rattle.rtrace_form.specs.Numbers.{length_told}
use Rattle.rtrace_form.proofs.numbers.length_of.Goals as goal

pub returns-in_err-number-clause-value : goal.returns-in_err-number-clause-value
unfolding length_told
returns-in_err-number-clause-value c =
    let none = ap (option_and_then (λ n. cond (nat_le n LENGTH_LIMIT) (Some n) None)) c.in_err-number.ensures in
    cc

pub returns-then-number-from-clause-value : goal.returns-then-number-from-clause-value
unfolding length_told
returns-then-number-from-clause-value c =
    sym (ap (λ b. cond b (Some c.in_ok-number.number) None) (lt-leb c.in_ok-number.number LENGTH_LIMIT (omega arith)))
    ∙ ap (option_and_then (λ n. cond (nat_le n LENGTH_LIMIT) (Some n) None)) c.in_ok-number.ensures

pub returns-clause-value : goal.returns-clause-value
unfolding length_told
returns-clause-value c =
    sym (ap (λ b. cond b (Some c.in_ok-number.number) None) (le-leb c.in_ok-number.number LENGTH_LIMIT (omega arith)))
    ∙ ap (option_and_then (λ n. cond (nat_le n LENGTH_LIMIT) (Some n) None)) c.in_ok-number.ensures
