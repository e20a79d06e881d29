use Rattle.std.proofs.Common.{◌∙◌}
use Rattle.rset.specs.Sets.{meets}
use Rattle.rset.proofs.WordLemmas.{meets_word}
use Rattle.rset.proofs.resources.ResourceSet.meets.Goals as goal

pub returns : goal.returns
returns c = meets_word c.self.inside.word c.o.inside.word c.self.invariant c.o.invariant ∙ (λ i. meets (c.self.view_is i) (c.o.view_is i))
