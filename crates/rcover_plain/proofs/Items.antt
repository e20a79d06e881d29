-- Lists of claims as moments, and tests of them.
use Rattle.std.proofs.Common.{◌≡◌, Bool, ◌&&◌, ◌||◌, List, [], ◌∷◌, refl, ap}
use Rattle.std.specs.List.{list_any, list_all}
use Rattle.std.specs.declared.vec.Vec.{Vec}
use Rattle.std.specs.declared.alloc.Global.{Global}
use Rattle.rmodel.specs.declared.claimed.Claimed.{Claimed}
use Rattle.rcover_plain.specs.Lists.{moments_in}
use Rattle.rcover_laws.specs.Moments.{Moment}

pub all_items : (p : Moment → Bool) (vs : List (Vec Claimed Global)) → list_all (λ v. p v.items) vs ≡ list_all p (moments_in vs)
all_items p [] = refl
all_items p (v ∷ vs) = ap (λ b. p v.items && b) (all_items p vs)

pub any_items : (p : Moment → Bool) (vs : List (Vec Claimed Global)) → list_any (λ v. p v.items) vs ≡ list_any p (moments_in vs)
any_items p [] = refl
any_items p (v ∷ vs) = ap (λ b. p v.items || b) (any_items p vs)
