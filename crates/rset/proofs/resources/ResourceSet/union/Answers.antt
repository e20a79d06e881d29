use Rattle.std.proofs.Common.{◌∙◌}
use Rattle.std.specs.FinSet.{union}
use Rattle.std.proofs.lemmas.Nat.{or_lt}
use Rattle.rset.proofs.WordLemmas.{set_of-union}
use Rattle.rset.proofs.resources.ResourceSet.union.Goals as goal

pub invariant_of-result : goal.invariant_of-result
invariant_of-result c = or_lt 64 _ _ c.self.invariant c.o.invariant

pub returns : goal.returns
returns c = set_of-union c.self.inside.word c.o.inside.word c.self.invariant c.o.invariant ∙ (λ i. union (c.self.view_is i) (c.o.view_is i))
