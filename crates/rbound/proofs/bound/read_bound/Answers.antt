use Rattle.std.proofs.Common.{◌∙◌}
use Rattle.rbound.specs.Longest.{one_of_each}
use Rattle.rbound.proofs.LongestClaims.{read_is}
use Rattle.rbound.proofs.bound.read_bound.Goals as goal

pub returns : goal.returns
returns c = c.one_of_each.ensures ∙ (λ i. one_of_each (c.longest_keeper.ensures i) (c.longest_delay.ensures i)) ∙ read_is c.args.needs.now c.args.claim.now
