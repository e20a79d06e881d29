use Rattle.std.proofs.Common.{◌∙◌}
use Rattle.std.specs.FinSet.{intersection}
use Rattle.rset.proofs.WordLemmas.{set_of-intersection}
use Rattle.rset.proofs.resources.ResourceSet.meet.Goals as goal

pub returns : goal.returns
returns c = set_of-intersection c.self.inside.word c.o.inside.word c.self.invariant c.o.invariant ∙ (λ i. intersection (c.self.view_is i) (c.o.view_is i))
