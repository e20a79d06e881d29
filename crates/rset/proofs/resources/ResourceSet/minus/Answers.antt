use Rattle.std.proofs.Common.{◌∙◌}
use Rattle.std.specs.FinSet.{difference}
use Rattle.rset.proofs.WordLemmas.{set_of-difference}
use Rattle.rset.proofs.resources.ResourceSet.minus.Goals as goal

pub returns : goal.returns
returns c = set_of-difference c.self.inside.word c.o.inside.word c.self.invariant c.o.invariant ∙ (λ i. difference (c.self.view_is i) (c.o.view_is i))
