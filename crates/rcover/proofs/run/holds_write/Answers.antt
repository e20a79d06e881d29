use Rattle.std.proofs.Common.{false, ap, ◌∙◌}
use Rattle.std.specs.Option.{unwrap_or}
use Rattle.rcover.proofs.Kept.{holds_first}
use Rattle.rcover.proofs.run.holds_write.Goals as goal

pub returns : goal.returns
returns c = c.unwrap_or.ensures ∙ ap (λ o. unwrap_or o false) c.first_holds.ensures ∙ holds_first c.args.c.now c.requires.write c.args.moment.now c.requires.rising
