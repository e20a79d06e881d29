-- Sets of seats that are gathered from a list.
use Rattle.std.proofs.Common.{◌≡◌, Bool, true, false, ◌||◌, List, [], ◌∷◌, ◌++◌, refl, ap, ◌∙◌}
use Rattle.std.specs.List.{list_any}

pub or_turned : (a b : Bool) → (a || b) ≡ (b || a)
or_turned true true = refl
or_turned true false = refl
or_turned false true = refl
or_turned false false = refl

pub any_push : {X : Type 0} (p : X → Bool) (xs : List X) (y : X) → list_any p (xs ++ y ∷ []) ≡ (list_any p xs || p y)
any_push p [] y = at (p y)
  where
    at : (b : Bool) → (b || false) ≡ b
    at true = refl
    at false = refl
any_push p (x ∷ xs) y = ap (λ b. p x || b) (any_push p xs y) ∙ over (p x) (list_any p xs) (p y)
  where
    over : (a b c : Bool) → (a || (b || c)) ≡ ((a || b) || c)
    over true b c = refl
    over false b c = refl
