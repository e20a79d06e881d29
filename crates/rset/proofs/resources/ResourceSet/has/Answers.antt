use Rattle.std.proofs.Common.{ap, ◌∙◌}
use Rattle.std.specs.FinSet.{contains}
use Rattle.rset.proofs.WordLemmas.{has_bit}
use Rattle.rset.proofs.resources.ResourceSet.has.Goals as goal

pub returns : goal.returns
returns c = has_bit c.self.inside.word c.args.l c.self.invariant ∙ ap (λ s. contains s c.args.l) c.self.view_is
