use Rattle.std.proofs.Common.{◌∙◌}
use Rattle.rcover_laws.specs.Moments.{holds_at}
use Rattle.rcover_plain.proofs.Items.{any_items}
use Rattle.rcover_plain.proofs.cover.holds_at_some.Goals as goal

pub returns : goal.returns
returns c = c.holds_in_some.ensures ∙ any_items (holds_at c.args.c.now) c.args.moments.now
