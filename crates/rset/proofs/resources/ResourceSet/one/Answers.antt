use Rattle.rset.proofs.WordLemmas.{set_of-one}
use Rattle.rset.proofs.resources.ResourceSet.one.Goals as goal

pub returns : goal.returns
returns c = set_of-one c.args.l c.requires
