use Rattle.std.proofs.Common.{List, [], sym, subst, refl}
use Rattle.rtrace.specs.Kept.{Tells}
use Rattle.rtrace.specs.Knows.{AreOfWaits}
use Rattle.rtrace.specs.declared.key.Key.{Key}
use Rattle.rtrace.specs.declared.kept_bounds.Kept.{Kept}
use Rattle.rtrace.proofs.KeyedBounds.{tells_nothing}
use Rattle.rtrace.proofs.told_bounds.ToldBounds.new.Goals as goal

pub returns : goal.returns
returns c = λ groups cap. record {
  accepted = tt;
  needs = c.in_ok-new.ensures;
  keyed = [];
  told = refl;
  keys = tt;
  kept = subst (λ (es : List (Key × Kept)). Tells es []) (sym c.new-2.ensures.empty) tells_nothing;
  of_waits = subst (AreOfWaits groups c.args.tasks cap []) (sym c.new-2.ensures.empty) tt;
}
