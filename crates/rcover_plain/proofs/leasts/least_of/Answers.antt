use Rattle.std.proofs.Common.{ap, ◌∙◌}
use Rattle.rcover_plain.specs.declared.leasts.Lowest.{Lowest}
use Rattle.rcover_plain.proofs.Lowest.{least_is}
use Rattle.rcover_plain.proofs.leasts.least_of.Goals as goal

pub returns : goal.returns
returns c = ap (λ (low : Lowest). low.least) c.lowest_of.ensures ∙ least_is c.args.c.now c.args.moment.now
