use Rattle.std.proofs.Common.{None, ap, ◌∙◌}
use Rattle.rbound.specs.Longest.{one_of_each}
use Rattle.rbound.proofs.LongestClaims.{ask_is}
use Rattle.rbound.proofs.bound.ask_bound.Goals as goal

pub returns : goal.returns
returns c = c.one_of_each.ensures ∙ ap (one_of_each None) c.longest_bar.ensures ∙ ask_is c.args.needs.now c.args.claim.now c.args.part
