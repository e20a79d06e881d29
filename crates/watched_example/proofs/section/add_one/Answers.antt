use Rattle.std.proofs.Common.{◌==◌, nat_cmp, refl, ◌∙◌}
use Rattle.std.specs.FinSet.{contains, empty}
use Rattle.std.proofs.lemmas.Bool.{or_left}
use Rattle.rset.proofs.SetMembers.{contains_insert}
use Rattle.watched_example.proofs.section.add_one.Goals as goal

pub edit-requires-after_bounds : goal.edit-requires-after_bounds
edit-requires-after_bounds g c κs within = c.requires 0 (contains_insert empty 0 0 ∙ or_left (0 == 0) (contains {R = nat_cmp} empty 0) refl)
