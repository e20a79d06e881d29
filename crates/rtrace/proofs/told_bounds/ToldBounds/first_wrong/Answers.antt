use Rattle.std.proofs.Common.{◌≡◌, List, [], ◌∷◌, length, refl, sym, ap, ◌∙◌, arith}
use Rattle.rtrace.specs.Kept.{least_wrong}
use Rattle.rtrace.specs.Knows.{bound_of_key}
use Rattle.rtrace.proofs.Knowing.{first_is}
use Rattle.rtrace.proofs.told_bounds.ToldBounds.first_wrong.Goals as goal

pub returns : goal.returns
returns c = λ seats events items known.
    let bounds = c.in_ok-bounds.ensures seats events known.needs known.accepted in
    c.first_by.ensures c.args.groups seats c.args.cap events bounds known.of_waits ∙ first_is c.args.groups seats c.args.cap c.args.self.now events items known

no_items : {A : Type 0} (xs : List A) → length xs ≡ 0 → xs ≡ []
no_items [] none = refl
no_items (x ∷ xs) none = absurd (omega (arith, none))

pub returns-then-is_empty : goal.returns-then-is_empty
returns-then-is_empty c = λ seats events items known.
    ap (least_wrong (bound_of_key c.args.groups seats c.args.cap events)) (sym (no_items c.args.self.now.kept.entries (c.if-is_empty.ensures.0 refl)))
    ∙ first_is c.args.groups seats c.args.cap c.args.self.now events items known
