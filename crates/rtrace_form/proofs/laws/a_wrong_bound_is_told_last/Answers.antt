use Rattle.std.proofs.Common.{ℕ, Option, sym, ap, ◌∙◌}
use Rattle.rtrace_form.specs.Walks.{or_else}
use Rattle.rtrace_form.specs.WrongBounds.{first_wrong_bound}
use Rattle.rtrace_form.specs.declared.fault.Code.{Code}
use Rattle.rtrace_form.proofs.facts.Codes.{told_last}
use Rattle.rtrace_form.proofs.laws.a_wrong_bound_is_told_last.Goals as goal

pub returns : goal.returns
returns c = λ whole rows line h.
    let none = told_last whole rows line h in
    (none, ap (λ (o : Option (ℕ × Code)). or_else o (first_wrong_bound whole rows)) (sym none) ∙ h)
