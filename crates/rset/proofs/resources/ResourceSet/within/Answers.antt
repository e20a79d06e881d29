use Rattle.std.proofs.Common.{◌∙◌}
use Rattle.std.specs.FinSet.{is_subset}
use Rattle.rset.proofs.WordLemmas.{within_word}
use Rattle.rset.proofs.resources.ResourceSet.within.Goals as goal

pub returns : goal.returns
returns c = within_word c.self.inside.word c.o.inside.word c.self.invariant c.o.invariant ∙ (λ i. is_subset (c.self.view_is i) (c.o.view_is i))
