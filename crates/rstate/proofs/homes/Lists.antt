-- Lists with one item set, lists of one item repeated, and how many items of a list pass a test.
use Rattle.std.proofs.Common.{◌≡◌, ◌≢◌, ℕ, zero, suc, ◌+◌, ◌<◌, ◌≤◌, ◌==◌, ◌||◌, Bool, true, false, cond, List, [], ◌∷◌, map, length, replicate, Some, None, refl, sym, ap, ◌∙◌, arith}
use Rattle.std.specs.Prelude.{slice_get, slice_set, is_some, unwrap_or, option_map}
use Rattle.std.specs.List.{list_any, count_by}
use Rattle.std.proofs.lemmas.Bool.{true≢false, eq-eqb, or_from, or_left, or_right}
use Rattle.std.proofs.lemmas.List.Sums.{sum_by-cons}
use Rattle.std.proofs.lemmas.Option.{slice_get-map}

-- there is no item and there is one
nothing_there : {X P : Type 0} (x : X) → None ≡ Some x → P
nothing_there x h = absurd (true≢false (sym (ap is_some h)))

-- the same item
pub same_item : {X : Type 0} (x y : X) → Some x ≡ Some y → x ≡ y
same_item x y h = ap (λ o. unwrap_or o x) h

pub get_map : {X Y : Type 0} (f : X → Y) (xs : List X) (l : ℕ) (x : X) → slice_get xs l ≡ Some x → slice_get (map f xs) l ≡ Some (f x)
get_map f xs l x h = slice_get-map f xs l ∙ ap (option_map f) h

pub get_here : {X : Type 0} (xs : List X) (k : ℕ) (x y : X) → slice_get xs k ≡ Some x → slice_get (slice_set xs k y) k ≡ Some y
get_here [] k x y h = nothing_there x h
get_here (z ∷ xs) zero x y h = refl
get_here (z ∷ xs) (suc k) x y h = get_here xs k x y h

pub get_beside : {X : Type 0} (xs : List X) (k l : ℕ) (y : X) → k ≢ l → slice_get (slice_set xs k y) l ≡ slice_get xs l
get_beside [] k l y differ = refl
get_beside (z ∷ xs) zero zero y differ = absurd (differ refl)
get_beside (z ∷ xs) zero (suc l) y differ = refl
get_beside (z ∷ xs) (suc k) zero y differ = refl
get_beside (z ∷ xs) (suc k) (suc l) y differ = get_beside xs k l y (λ e. differ (ap suc e))

pub get_else : {X : Type 0} (xs : List X) (k l : ℕ) (y : X) → (k == l) ≡ false → slice_get (slice_set xs k y) l ≡ slice_get xs l
get_else xs k l y h = get_beside xs k l y (λ e. true≢false (sym (eq-eqb k l e) ∙ h))

-- a place within the list has an item
pub get_there : {X : Type 0} (xs : List X) (k : ℕ) → k < length xs → (x : X) × (slice_get xs k ≡ Some x)
get_there [] k h = absurd (omega arith)
get_there (z ∷ xs) zero h = (z, refl)
get_there (z ∷ xs) (suc k) h = get_there xs k (omega arith)

pub get_replicate : {X : Type 0} (n k : ℕ) (x y : X) → slice_get (replicate n x) k ≡ Some y → y ≡ x
get_replicate zero k x y h = nothing_there y h
get_replicate (suc n) zero x y h = sym (same_item x y h)
get_replicate (suc n) (suc k) x y h = get_replicate n k x y h

module _ {X : Type 0} (p : X → Bool) where
  pub any_none : (xs : List X) → ((k : ℕ) (x : X) → slice_get xs k ≡ Some x → p x ≡ false) → list_any p xs ≡ false
  any_none [] none = refl
  any_none (x ∷ xs) none = or_from (p x) (list_any p xs) (none 0 x refl) (any_none xs (λ k y there. none (suc k) y there))

  pub any_here : (xs : List X) (k : ℕ) (x : X) → slice_get xs k ≡ Some x → p x ≡ true → list_any p xs ≡ true
  any_here [] k x there passes = nothing_there x there
  any_here (y ∷ xs) zero x there passes = or_left (p y) (list_any p xs) (ap p (same_item y x there) ∙ passes)
  any_here (y ∷ xs) (suc k) x there passes = or_right (p y) (list_any p xs) (any_here xs k x there passes)

  -- an item replaces one that passes just as it does
  pub any_same : (xs : List X) (k : ℕ) (x y : X) → slice_get xs k ≡ Some x → p x ≡ p y → list_any p (slice_set xs k y) ≡ list_any p xs
  any_same [] k x y there same = refl
  any_same (z ∷ xs) zero x y there same = ap (λ b. b || list_any p xs) (sym same ∙ ap p (sym (same_item z x there)))
  any_same (z ∷ xs) (suc k) x y there same = ap (λ b. p z || b) (any_same xs k x y there same)

  pub count_none : (xs : List X) → ((k : ℕ) (x : X) → slice_get xs k ≡ Some x → p x ≡ false) → count_by p xs ≡ 0
  count_none [] none = refl
  count_none (x ∷ xs) none = sum_by-cons (λ y. cond (p y) 1 0) x xs ∙ (λ i. cond (none 0 x refl i) 1 0 + count_none xs (λ k y there. none (suc k) y there) i)

  -- at most as many pass as there are
  pub count_few : (xs : List X) → count_by p xs ≤ length xs
  count_few [] = omega arith
  count_few (x ∷ xs) = let one = sum_by-cons (λ y. cond (p y) 1 0) x xs in let rest = count_few xs in let bit = at_most_one (p x) in omega arith
    where
      at_most_one : (b : Bool) → cond b 1 0 ≤ 1
      at_most_one true = omega arith
      at_most_one false = omega arith

  -- and fewer if one does not
  pub count_fewer : (xs : List X) (k : ℕ) (x : X) → slice_get xs k ≡ Some x → p x ≡ false → count_by p xs < length xs
  count_fewer [] k x there fails = nothing_there x there
  count_fewer (y ∷ xs) zero x there fails =
      let one = sum_by-cons (λ y. cond (p y) 1 0) y xs in
      let none : cond {A = ℕ} (p y) 1 0 ≡ 0 = ap {B = ℕ} (λ (b : Bool). cond {A = ℕ} b 1 0) (ap p (same_item y x there) ∙ fails) in
      let rest = count_few xs in omega arith
  count_fewer (y ∷ xs) (suc k) x there fails =
      let one = sum_by-cons (λ y. cond (p y) 1 0) y xs in let rest = count_fewer xs k x there fails in let bit = at_most_one (p y) in omega arith
    where
      at_most_one : (b : Bool) → cond b 1 0 ≤ 1
      at_most_one true = omega arith
      at_most_one false = omega arith

  -- one item set: the count changes by it
  pub count_set : (xs : List X) (k : ℕ) (x y : X) → slice_get xs k ≡ Some x → count_by p (slice_set xs k y) + cond (p x) 1 0 ≡ count_by p xs + cond (p y) 1 0
  count_set [] k x y there = nothing_there x there
  count_set (z ∷ xs) zero x y there =
      let before = sum_by-cons (λ y. cond (p y) 1 0) z xs in
      let later = sum_by-cons (λ y. cond (p y) 1 0) y xs in
      let same : cond {A = ℕ} (p z) 1 0 ≡ cond {A = ℕ} (p x) 1 0 = ap {B = ℕ} (λ (w : X). cond {A = ℕ} (p w) 1 0) (same_item z x there) in
      omega arith
  count_set (z ∷ xs) (suc k) x y there =
      let before = sum_by-cons (λ y. cond (p y) 1 0) z xs in
      let later = sum_by-cons (λ y. cond (p y) 1 0) z (slice_set xs k y) in
      let rest = count_set xs k x y there in
      omega arith
