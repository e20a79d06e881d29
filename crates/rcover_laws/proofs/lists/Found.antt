-- Lists: the first element that passes a test, and what a filter leaves.
use Rattle.std.proofs.Common.{◌≡◌, Bool, true, false, ◌||◌, cond, Some, List, [], ◌∷◌, filter, find, refl, sym, ap, ◌∙◌, ◌⊎◌, inl, inr}
use Rattle.std.specs.List.{list_any, AllByRecursion}
use Rattle.rmodel.proofs.ListFacts.{Among, contrary}
use Rattle.rmodel.proofs.settling.OneSettlement.{both_cases}

-- the first element that passes
pub record FirstOf {X : Type 0} (p : X → Bool) (xs : List X) : Type 0 where
  pub one : X
  pub among : Among one xs
  pub passes : p one ≡ true
  pub is : find p xs ≡ Some one

pub first_of : {X : Type 0} (p : X → Bool) (xs : List X) → list_any p xs ≡ true → FirstOf p xs
first_of p [] some = contrary false some refl
first_of p (x ∷ xs) some =
    both_cases (p x)
    (λ pass. record { one = x; among = inl refl; passes = pass; is = ap (λ b. cond b (Some x) (find p xs)) pass })
    (λ fail.
    let rest = first_of p xs (ap (λ b. b || list_any p xs) (sym fail) ∙ some) in
    record { one = rest.one; among = inr rest.among; passes = rest.passes; is = ap (λ b. cond b (Some x) (find p xs)) fail ∙ rest.is })

module _ {X : Type 0} (p : X → Bool) (x : X) (xs : List X) where
  pub filter_yes : p x ≡ true → filter p (x ∷ xs) ≡ x ∷ filter p xs
  filter_yes pass = ap (λ b. cond b (x ∷ filter p xs) (filter p xs)) pass

  pub filter_no : p x ≡ false → filter p (x ∷ xs) ≡ filter p xs
  filter_no fail = ap (λ b. cond b (x ∷ filter p xs) (filter p xs)) fail

-- an element of a list, and the list has one
pub not_empty : {X : Type 0} (xs : List X) (x : X) → Among x xs → xs ≡ [] → ⊥
not_empty [] x there none = there
not_empty (y ∷ ys) x there none = absurd (is_filled (ap filled none))
  where
    filled : {X : Type 0} → List X → Bool
    filled [] = false
    filled (z ∷ zs) = true

    is_filled : true ≡ false → ⊥
    is_filled h = contrary false (sym h) refl

-- what holds of each element that passes holds of each that a filter leaves
pub of_filtered : {X : Type 0} (P Q : X → Type 0) (p : X → Bool) → ((x : X) → p x ≡ true → P x → Q x) → (xs : List X) → AllByRecursion P xs → AllByRecursion Q (filter p xs)
of_filtered P Q p gives [] all = tt
of_filtered P Q p gives (x ∷ xs) all = at (p x) refl (of_filtered P Q p gives xs all.1)
  where
    at : (b : Bool) → p x ≡ b → AllByRecursion Q (filter p xs) → AllByRecursion Q (cond b (x ∷ filter p xs) (filter p xs))
    at true pass rest = (gives x pass all.0, rest)
    at false fail rest = rest

pub all_both : {X : Type 0} (P Q R : X → Type 0) → ((x : X) → P x → Q x → R x) → (xs : List X) → AllByRecursion P xs → AllByRecursion Q xs → AllByRecursion R xs
all_both P Q R gives [] a b = tt
all_both P Q R gives (x ∷ xs) a b = (gives x a.0 b.0, all_both P Q R gives xs a.1 b.1)

pub all_so : {X : Type 0} (P Q : X → Type 0) → ((x : X) → P x → Q x) → (xs : List X) → AllByRecursion P xs → AllByRecursion Q xs
all_so P Q gives [] a = tt
all_so P Q gives (x ∷ xs) a = (gives x a.0, all_so P Q gives xs a.1)

-- a list is empty, or has a first element
pub list_parts : {X : Type 0} (xs : List X) → (xs ≡ []) ⊎ ((x : X) × (ys : List X) × (xs ≡ x ∷ ys))
list_parts [] = inl refl
list_parts (x ∷ xs) = inr (x, xs, refl)
