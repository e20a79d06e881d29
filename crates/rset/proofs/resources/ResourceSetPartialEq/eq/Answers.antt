use Rattle.std.proofs.Common.{sym, ap, ◌∙◌}
use Rattle.rset.specs.SetFacts.{equals_decides}
use Rattle.rset.specs.Words.{set_of}
use Rattle.std.proofs.lemmas.Bool.{eqb-true, eq-eqb}
use Rattle.rset.proofs.SetMembers.{same_test}
use Rattle.rset.proofs.WordLemmas.{set_of-injective}
use Rattle.rset.proofs.resources.ResourceSetPartialEq.eq.Goals as goal

pub returns-clause-same : goal.returns-clause-same
returns-clause-same c =
    let a = c.self.inside.word in
    let b = c.other.inside.word in (
      (λ same. sym c.self.view_is ∙ ap set_of (eqb-true a b same) ∙ c.other.view_is),
      (λ same. eq-eqb a b (set_of-injective a b c.self.invariant c.other.invariant (c.self.view_is ∙ same ∙ sym c.other.view_is))),
    )

pub returns-clause-value : goal.returns-clause-value
returns-clause-value c =
    let same = returns-clause-same c in
    let decides = equals_decides c.args.self.now c.args.other.now in
    same_test _ _ (λ h. decides.1 (same.0 h)) (λ h. same.1 (decides.0 h))
