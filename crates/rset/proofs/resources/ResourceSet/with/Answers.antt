use Rattle.std.proofs.Common.{ap, ◌∙◌}
use Rattle.std.specs.FinSet.{insert}
use Rattle.rset.proofs.WordLemmas.{with_fits, set_of-insert}
use Rattle.rset.proofs.resources.ResourceSet.with.Goals as goal

pub invariant_of-result : goal.invariant_of-result
invariant_of-result c = with_fits c.self.inside.word c.args.l c.self.invariant

pub returns : goal.returns
returns c = set_of-insert c.self.inside.word c.args.l c.self.invariant c.requires ∙ ap (λ s. insert s c.args.l) c.self.view_is
