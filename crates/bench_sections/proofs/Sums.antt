-- Sums over the numbers of a range, and sums of a list that is split by numbers of its elements.
use Rattle.std.proofs.Common.{◌≡◌, ℕ, zero, suc, ◌+◌, ◌<◌, ◌≤◌, ◌==◌, Bool, true, false, cond, List, [], ◌∷◌, map, filter, refl, sym, ap, ◌∙◌, inl, inr, arith}
use Rattle.std.specs.List.{AllByRecursion, range_with_len, sum_by}
use Rattle.std.proofs.lemmas.Bool.{cases_eq, eq-eqb, ne_eqb}
use Rattle.std.proofs.lemmas.List.Sums.{sum_by-cons}

none_before : (n : ℕ) → 0 + n ≡ n
none_before n = omega arith

module _ {X : Type 0} where
  pub sum_of_none : (xs : List X) → sum_by (λ x. 0) xs ≡ 0
  sum_of_none [] = refl
  sum_of_none (x ∷ xs) = sum_by-cons (λ y. 0) x xs ∙ ap (λ n. 0 + n) (sum_of_none xs)

  pub sum_of_both : (f g : X → ℕ) (xs : List X) → sum_by (λ x. f x + g x) xs ≡ sum_by f xs + sum_by g xs
  sum_of_both f g [] = refl
  sum_of_both f g (x ∷ xs) =
      sum_by-cons (λ y. f y + g y) x xs ∙ ap (λ n. f x + g x + n) (sum_of_both f g xs) ∙ regroup (f x) (g x) (sum_by f xs) (sum_by g xs)
      ∙ (λ i. sym (sum_by-cons f x xs) i + sym (sum_by-cons g x xs) i)
    where
      regroup : (a b c d : ℕ) → a + b + (c + d) ≡ (a + c) + (b + d)
      regroup a b c d = omega arith

  pub sum_of_map : {Y : Type 0} (f : X → ℕ) (g : Y → X) (ys : List Y) → sum_by f (map g ys) ≡ sum_by (λ y. f (g y)) ys
  sum_of_map f g [] = refl
  sum_of_map f g (y ∷ ys) = sum_by-cons f (g y) (map g ys) ∙ ap (λ n. f (g y) + n) (sum_of_map f g ys) ∙ sym (sum_by-cons (λ z. f (g z)) y ys)

-- functions that agree on the range have the same sum
pub sum_alike : (f g : ℕ → ℕ) (n a : ℕ) → ((k : ℕ) → a ≤ k → k < a + n → f k ≡ g k) → sum_by f (range_with_len a n) ≡ sum_by g (range_with_len a n)
sum_alike f g zero a alike = refl
sum_alike f g (suc n) a alike =
    sum_by-cons f a (range_with_len (a + 1) n) ∙ (λ i. alike a (omega arith) (omega arith) i + sum_alike f g n (a + 1) (λ k low high. alike k (omega arith) (omega arith)) i)
    ∙ sym (sum_by-cons g a (range_with_len (a + 1) n))

-- what is at one number, outside the range and inside it
sum_beside : (s w n a : ℕ) → s < a → sum_by (λ k. cond (s == k) w 0) (range_with_len a n) ≡ 0
sum_beside s w n a low =
    sum_alike (λ k. cond (s == k) w 0) (λ k. 0) n a (λ k from below. ap (λ (b : Bool). cond b w 0) (ne_eqb s k (λ e. absurd (omega arith)))) ∙ sum_of_none (range_with_len a n)

pub sum_at_one : (s w n a : ℕ) → a ≤ s → s < a + n → sum_by (λ k. cond (s == k) w 0) (range_with_len a n) ≡ w
sum_at_one s w zero a low high = absurd (omega arith)
sum_at_one s w (suc n) a low high = sum_by-cons (λ k. cond (s == k) w 0) a (range_with_len (a + 1) n) ∙ elim (cases_eq s a) [
  | inl same ↦ (λ i. cond (eq-eqb s a same i) w 0 + sum_beside s w n (a + 1) (omega arith) i) ∙ none w
  | inr other ↦ (λ i. cond (ne_eqb s a other i) w 0 + sum_at_one s w n (a + 1) (omega arith) (omega arith) i) ∙ none_before w
]
  where
    none : (x : ℕ) → x + 0 ≡ x
    none x = omega arith

-- the sum of a list is that of its parts by number, where each number is below a bound
pub sum_by_number : {X : Type 0} (number w : X → ℕ) (n : ℕ) (xs : List X) → AllByRecursion (λ x. number x < n) xs → sum_by (λ k. sum_by w (filter (λ x. number x == k) xs)) (range_with_len 0 n) ≡ sum_by w xs
sum_by_number number w n [] below = sum_of_none (range_with_len 0 n)
sum_by_number number w n (x ∷ xs) below =
    ap (λ (f : ℕ → ℕ). sum_by f (range_with_len 0 n)) (λ i k. first k (number x == k) i)
    ∙ sum_of_both (λ k. cond (number x == k) (w x) 0) (λ k. sum_by w (filter (λ y. number y == k) xs)) (range_with_len 0 n)
    ∙ (λ i. sum_at_one (number x) (w x) n 0 (omega arith) (omega (arith, below.0)) i + sum_by_number number w n xs below.1 i)
    ∙ sym (sum_by-cons w x xs)
  where
    first : (k : ℕ) (b : Bool) → sum_by w (cond b (x ∷ filter (λ y. number y == k) xs) (filter (λ y. number y == k) xs)) ≡ cond b (w x) 0 + sum_by w (filter (λ y. number y == k) xs)
    first k true = sum_by-cons w x (filter (λ y. number y == k) xs)
    first k false = sym (none_before (sum_by w (filter (λ y. number y == k) xs)))
