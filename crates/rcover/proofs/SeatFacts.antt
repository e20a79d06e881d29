-- Sets of seats that are gathered from a list.
use Rattle.std.proofs.Common.{◌≡◌, ℕ, ◌==◌, Bool, true, false, ◌&&◌, ◌||◌, List, [], ◌∷◌, ◌++◌, refl, sym, ap, ◌∙◌}
use Rattle.std.proofs.lemmas.Bool.{eq-eqb, eqb-true}
use Rattle.std.specs.List.{list_any}
use Rattle.rmodel.proofs.ListFacts.{contrary, false_from}
use Rattle.rmodel.proofs.settling.OneSettlement.{both_cases}

pub eq_turned : (a b : ℕ) → (a == b) ≡ (b == a)
eq_turned a b =
    both_cases (a == b)
    (λ on. on ∙ sym (eq-eqb b a (sym (eqb-true a b on))))
    (λ off. off ∙ sym (false_from (b == a) (λ h. contrary (a == b) (eq-eqb a b (sym (eqb-true b a h))) off)))

pub and_true : (b : Bool) → (b && true) ≡ b
and_true true = refl
and_true false = refl

pub or_turned : (a b : Bool) → (a || b) ≡ (b || a)
or_turned true true = refl
or_turned true false = refl
or_turned false true = refl
or_turned false false = refl

pub any_push : {X : Type 0} (p : X → Bool) (xs : List X) (y : X) → list_any p (xs ++ y ∷ []) ≡ (list_any p xs || p y)
any_push p [] y = at (p y)
  where
    at : (b : Bool) → (b || false) ≡ b
    at true = refl
    at false = refl
any_push p (x ∷ xs) y = ap (λ b. p x || b) (any_push p xs y) ∙ over (p x) (list_any p xs) (p y)
  where
    over : (a b c : Bool) → (a || (b || c)) ≡ ((a || b) || c)
    over true b c = refl
    over false b c = refl

pub or_false : (b : Bool) → (b || false) ≡ b
or_false true = refl
or_false false = refl

pub or_grouped : (a b c : Bool) → ((a || b) || c) ≡ (a || (b || c))
or_grouped true b c = refl
or_grouped false b c = refl
