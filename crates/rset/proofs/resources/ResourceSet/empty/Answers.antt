use Rattle.rset.proofs.WordLemmas.{set_of-zero}
use Rattle.rset.proofs.resources.ResourceSet.empty.Goals as goal

pub returns : goal.returns
returns c = set_of-zero
