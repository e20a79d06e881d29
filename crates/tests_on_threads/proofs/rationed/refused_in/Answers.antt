use Rattle.std.proofs.Common.{ap, ◌∙◌}
use Rattle.std.specs.FinSet.{contains}
use Rattle.rset.specs.Sets.{Set}
use Rattle.tests_on_threads.proofs.Begun.{contains_single}
use Rattle.tests_on_threads.proofs.rationed.refused_in.Goals as goal

pub is_refused-refused-requires-after_bounds : goal.is_refused-refused-requires-after_bounds
is_refused-refused-requires-after_bounds g c κs within =
    c.in-Ok.ensures.writes c.args.place (ap (λ (s : Set). contains s c.args.place) c.one.ensures ∙ contains_single c.args.place)
