use Rattle.std.proofs.Common.{ap, sym, ◌∙◌}
use Rattle.std.specs.FinSet.{len}
use Rattle.rset.specs.declared.TheConstants.{RESOURCES}
use Rattle.rset.specs.Sets.{all_below}
use Rattle.rset.proofs.WordLemmas.{ones_len, below_64}
use Rattle.rset.proofs.resources.ResourceSet.len.Goals as goal

pub returns-clause-value : goal.returns-clause-value
returns-clause-value c = ones_len c.self.inside.word c.self.invariant ∙ ap len c.self.view_is

pub returns-clause-within : goal.returns-clause-within
returns-clause-within c = ap (all_below RESOURCES) (sym c.self.view_is) ∙ below_64 c.self.inside.word c.self.invariant
