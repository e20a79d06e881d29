use Rattle.std.proofs.Common.{ap, ◌∙◌}
use Rattle.std.specs.FinSet.{union}
use Rattle.rplain.proofs.settling.NewSettled.{union_where}
use Rattle.rplain.proofs.seen.and_where.Goals as goal

pub returns : goal.returns
returns c = c.union.ensures ∙ ap (union c.args.all) c.only_where.ensures ∙ union_where c.args.all c.args.set c.args.holds
