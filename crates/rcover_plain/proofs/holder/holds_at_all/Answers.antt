use Rattle.std.proofs.Common.{◌∙◌}
use Rattle.rcover_laws.specs.Moments.{holds_at}
use Rattle.rcover_plain.proofs.Items.{all_items}
use Rattle.rcover_plain.proofs.holder.holds_at_all.Goals as goal

pub returns : goal.returns
returns c = c.holds_in_all.ensures ∙ all_items (holds_at c.args.c.now) c.args.moments.now
