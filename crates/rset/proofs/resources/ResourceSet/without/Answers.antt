use Rattle.std.proofs.Common.{ap, ◌∙◌}
use Rattle.std.specs.FinSet.{remove}
use Rattle.rset.proofs.WordLemmas.{set_of-remove}
use Rattle.rset.proofs.resources.ResourceSet.without.Goals as goal

pub returns : goal.returns
returns c = set_of-remove c.self.inside.word c.args.l c.self.invariant c.requires ∙ ap (λ s. remove s c.args.l) c.self.view_is
