use Rattle.std.proofs.Common.{ap, ◌∙◌}
use Rattle.std.specs.Prelude.{option_and_then}
use Rattle.rtrace_form.specs.Numbers.{cap_within, cap_told}
use Rattle.rtrace_form.proofs.numbers.cap_of.Goals as goal

pub returns-in_err-number_of-clause-value : goal.returns-in_err-number_of-clause-value
unfolding cap_told
returns-in_err-number_of-clause-value c =
    let none = ap (option_and_then cap_within) c.in_err-number_of.ensures in
    cc

pub returns-clause-value : goal.returns-clause-value
unfolding cap_told
returns-clause-value c = c.cap_within.ensures.value ∙ ap (option_and_then cap_within) c.in_ok-number_of.ensures
