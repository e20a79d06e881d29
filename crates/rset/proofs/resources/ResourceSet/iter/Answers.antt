use Rattle.std.proofs.Common.{ap, sym, ◌∙◌}
use Rattle.rset.specs.declared.TheConstants.{RESOURCES}
use Rattle.rset.specs.Sets.{all_below}
use Rattle.rset.proofs.SetsRising.{rising_few}
use Rattle.rset.proofs.WordLemmas.{below_64}
use Rattle.rset.proofs.resources.ResourceSet.iter.Goals as goal

pub returns-clause-within : goal.returns-clause-within
returns-clause-within c = ap (all_below RESOURCES) (sym c.self.view_is) ∙ below_64 c.self.inside.word c.self.invariant

pub returns-clause-few : goal.returns-clause-few
returns-clause-few c = rising_few c.args.self
