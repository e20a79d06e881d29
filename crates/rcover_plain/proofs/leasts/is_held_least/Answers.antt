use Rattle.std.proofs.Common.{◌&&◌, ◌∙◌}
use Rattle.rcover_laws.specs.Line.{is_least}
use Rattle.rcover_laws.specs.Moments.{holds_at}
use Rattle.rcover_plain.proofs.Items.{any_items}
use Rattle.rcover_plain.proofs.leasts.is_held_least.Goals as goal

pub returns : goal.returns
returns c = c.is_held_in_some.ensures ∙ any_items (λ m. is_least c.args.c.now c.args.d.now m && holds_at c.args.d.now m) c.args.moments.now
