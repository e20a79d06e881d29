use Rattle.rset.proofs.WordLemmas.{is_zero}
use Rattle.rset.proofs.resources.ResourceSet.is_empty.Goals as goal

pub returns : goal.returns
returns c = is_zero c.self.inside.word c.args.self c.self.invariant c.self.view_is
