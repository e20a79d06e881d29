use Rattle.std.proofs.Common.{List, ap, subst, ◌∙◌}
use Rattle.rtrace.specs.Kept.{lesser}
use Rattle.rtrace.specs.declared.key.Key.{Key}
use Rattle.rtrace.specs.declared.kept_bounds.Kept.{Kept}
use Rattle.rtrace.proofs.OverKeys.{IsFirstSoFar, one_key_more}
use Rattle.rtrace.proofs.told_bounds.ToldBounds.first_by.Goals as goal

pub loop-key-preserved : goal.loop-key-preserved
loop-key-preserved c =
    let all = c.args.self.now.kept.entries in
    let first = c.loop-key.first in
    let so_far = subst (λ (es : List (Key × Kept)). IsFirstSoFar c.args.bounds.now all first es) c.in-Some.ensures.steps c.loop-key.invariant in
    one_key_more c.args.bounds.now all c.next.new.self first c.lesser-first.result c.in-Some.key.now c.in-Some.kept.now c.bound.result so_far c.bound.ensures (c.lesser-first.ensures ∙ ap (λ o. lesser first o) c.wrong.ensures)
