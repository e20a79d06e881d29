-- Sums over a list in which one element changes, and how many tickets can be out.
use Rattle.std.proofs.Common.{◌≡◌, ◌≢◌, ℕ, zero, suc, ◌+◌, ◌<◌, ◌≤◌, cond, eqb, List, [], ◌∷◌, ◌++◌, length, set, refl, sym, ap, ◌∙◌, arith, eq-eqb, ne_eqb}
use mathlib.Core.Logic.{dite}
use mathlib.Core.Option.{some, some-injective, some-ne-none}
use native.Mathlib.Decide.{ℕ_discrete, dec_le}
use lib.ListN.{get_elem?}
use Rattle.std.specs.Prelude.{sum_by}
use Rattle.std.proofs.lemmas.List.Sums.{sum_by-cons, sum_by-append}
use Rattle.rlock.specs.Views.{times}

module _ {A : Type 0} (f : A → ℕ) where
  -- one element changes
  pub sum_set : (vs : List A) (i : ℕ) (v w : A) → get_elem? vs i ≡ some v → sum_by f (set vs i w) + f v ≡ sum_by f vs + f w
  sum_set [] i v w e = absurd (some-ne-none v (sym e))
  sum_set (x ∷ xs) zero v w e = let same : f x ≡ f v = ap f (some-injective x v e) in omega (arith, sum_by-cons f w xs, sum_by-cons f x xs)
  sum_set (x ∷ xs) (suc i) v w e = omega (arith, sum_by-cons f x (set xs i w), sum_by-cons f x xs, sum_set xs i v w e)

  pub at_most_sum : (vs : List A) (i : ℕ) (v : A) → get_elem? vs i ≡ some v → f v ≤ sum_by f vs
  at_most_sum [] i v e = absurd (some-ne-none v (sym e))
  at_most_sum (x ∷ xs) zero v e = let same : f x ≡ f v = ap f (some-injective x v e) in omega (arith, sum_by-cons f x xs)
  at_most_sum (x ∷ xs) (suc i) v e = omega (arith, sum_by-cons f x xs, at_most_sum xs i v e)

  pub two_at_most_sum : (vs : List A) (i j : ℕ) (v w : A) → i ≢ j → get_elem? vs i ≡ some v → get_elem? vs j ≡ some w → f v + f w ≤ sum_by f vs
  two_at_most_sum [] i j v w apart e d = absurd (some-ne-none v (sym e))
  two_at_most_sum (x ∷ xs) zero zero v w apart e d = absurd (apart refl)
  two_at_most_sum (x ∷ xs) zero (suc j) v w apart e d = let same : f x ≡ f v = ap f (some-injective x v e) in omega (arith, sum_by-cons f x xs, at_most_sum xs j w d)
  two_at_most_sum (x ∷ xs) (suc i) zero v w apart e d = let same : f x ≡ f w = ap f (some-injective x w d) in omega (arith, sum_by-cons f x xs, at_most_sum xs i v e)
  two_at_most_sum (x ∷ xs) (suc i) (suc j) v w apart e d = omega (arith, sum_by-cons f x xs, two_at_most_sum xs i j v w (λ s. apart (ap suc s)) e d)

  -- a sum that is not 0 has an element that counts
  pub some_counts : (vs : List A) → 0 < sum_by f vs → (i : ℕ) × (v : A) × (get_elem? vs i ≡ some v) × (0 < f v)
  some_counts [] h = absurd (omega arith)
  some_counts (x ∷ xs) h = dite (ℕ_discrete (f x) 0)
      (λ none. let more = some_counts xs (omega (arith, sum_by-cons f x xs)) in (suc more.0, more.1, more.2, more.3))
      (λ one. (0, x, refl, omega arith))

pub times-append : (n : ℕ) (xs ys : List ℕ) → times n (xs ++ ys) ≡ times n xs + times n ys
times-append n xs ys = sum_by-append (λ k. cond (eqb k n) 1 0) xs ys

pub times-cons : (n x : ℕ) (xs : List ℕ) → times n (x ∷ xs) ≡ cond (eqb x n) 1 0 + times n xs
times-cons n x xs = sum_by-cons (λ k. cond (eqb k n) 1 0) x xs

pub times_here : (n : ℕ) (xs : List ℕ) → times n (n ∷ xs) ≡ 1 + times n xs
times_here n xs = times-cons n n xs ∙ ap (λ b. cond b 1 0 + times n xs) (eq-eqb n n refl)

pub times_else : (n x : ℕ) (xs : List ℕ) → x ≢ n → times n (x ∷ xs) ≡ times n xs
times_else n x xs other = times-cons n x xs ∙ (ap (λ b. cond b 1 0 + times n xs) (ne_eqb x n other) ∙ omega arith)

-- f base + f (base + 1) + .., a sum of `count` terms
abbrev total : ℕ → ℕ → (ℕ → ℕ) → ℕ
total base zero f = 0
total base (suc count) f = total base count f + f (base + count)

total_add : (base count : ℕ) (f g : ℕ → ℕ) → total base count (λ t. f t + g t) ≡ total base count f + total base count g
total_add base zero f g = refl
total_add base (suc count) f g = omega (arith, total_add base count f g)

total_same : (base count : ℕ) (f g : ℕ → ℕ) → ((t : ℕ) → f t ≡ g t) → total base count f ≡ total base count g
total_same base zero f g same = refl
total_same base (suc count) f g same = omega (arith, total_same base count f g same, same (base + count))

total_ones : (base count : ℕ) (f : ℕ → ℕ) → ((t : ℕ) → base ≤ t → t < base + count → f t ≡ 1) → total base count f ≡ count
total_ones base zero f ones = refl
total_ones base (suc count) f ones = omega (arith, total_ones base count f (λ t low high. ones t low (omega arith)), ones (base + count) (omega arith) (omega arith))

-- a number is counted once if it lies among them, and else not at all
total_past : (base count x : ℕ) → base + count ≤ x → total base count (λ t. times t (x ∷ [])) ≡ 0
total_past base zero x far = refl
total_past base (suc count) x far = omega (arith, total_past base count x (omega arith), times_else (base + count) x [] (λ e. omega arith))

total_one : (base count x : ℕ) → total base count (λ t. times t (x ∷ [])) ≤ 1
total_one base zero x = omega arith
total_one base (suc count) x = dite (ℕ_discrete x (base + count))
    (λ e. omega (arith, total_past base count x (omega arith), ap (λ (y : ℕ). times (base + count) (y ∷ [])) e, times_here (base + count) []))
    (λ other. omega (arith, total_one base count x, times_else (base + count) x [] other))

total_inside : (count x : ℕ) → x < count → 1 ≤ total 0 count (λ t. times t (x ∷ []))
total_inside zero x h = absurd (omega arith)
total_inside (suc count) x h = dite (ℕ_discrete x (0 + count))
    (λ e. omega (arith, ap (λ (y : ℕ). times (0 + count) (y ∷ [])) e, times_here (0 + count) []))
    (λ other. omega (arith, total_inside count x (omega arith)))

-- a list counts at most as often as it is long, and exactly that often if all of it is counted
total_most : (base count : ℕ) (xs : List ℕ) → total base count (λ t. times t xs) ≤ length xs
total_most base count [] = omega (arith, total_none base count)
  where
    total_none : (base count : ℕ) → total base count (λ t. times t []) ≡ 0
    total_none base zero = refl
    total_none base (suc count) = omega (arith, total_none base count)
total_most base count (x ∷ xs) = omega (
  arith,
  total_same base count (λ t. times t (x ∷ xs)) (λ t. times t (x ∷ []) + times t xs) (λ t. times-append t (x ∷ []) xs),
  total_add base count (λ t. times t (x ∷ [])) (λ t. times t xs),
  total_one base count x,
  total_most base count xs,
)

total_least : (count : ℕ) (xs : List ℕ) → ((n : ℕ) → count ≤ n → times n xs ≡ 0) → length xs ≤ total 0 count (λ t. times t xs)
total_least count [] below = omega arith
total_least count (x ∷ xs) below = omega (
  arith,
  total_same 0 count (λ t. times t (x ∷ xs)) (λ t. times t (x ∷ []) + times t xs) (λ t. times-append t (x ∷ []) xs),
  total_add 0 count (λ t. times t (x ∷ [])) (λ t. times t xs),
  total_inside count x inside,
  total_least count xs (λ n far. omega (arith, below n far, times-append n (x ∷ []) xs)),
)
  where
    inside : x < count
    inside = dite (dec_le count x) (λ far. absurd (omega (arith, below x far, times_here x xs))) (λ near. omega arith)

module _ {A : Type 0} (tickets numbers : A → List ℕ) where
  crowd : (base count passes : ℕ) (vs : List A) → ((i : ℕ) (v : A) → get_elem? vs i ≡ some v → length (tickets v) ≤ length (numbers v)) → ((n : ℕ) → passes ≤ n → sum_by (λ v. times n (numbers v)) vs ≡ 0)
      → total base count (λ t. sum_by (λ v. times t (tickets v)) vs) ≤ total 0 passes (λ n. sum_by (λ v. times n (numbers v)) vs)
  crowd base count passes [] each below = omega (arith, total_most base count [])
  crowd base count passes (v ∷ vs) each below = omega (
    arith,
    total_same base count (λ t. sum_by (λ v. times t (tickets v)) (v ∷ vs)) (λ t. times t (tickets v) + sum_by (λ v. times t (tickets v)) vs) (λ t. sum_by-cons (λ v. times t (tickets v)) v vs),
    total_same 0 passes (λ n. sum_by (λ v. times n (numbers v)) (v ∷ vs)) (λ n. times n (numbers v) + sum_by (λ v. times n (numbers v)) vs) (λ n. sum_by-cons (λ v. times n (numbers v)) v vs),
    total_add base count (λ t. times t (tickets v)) (λ t. sum_by (λ v. times t (tickets v)) vs),
    total_add 0 passes (λ n. times n (numbers v)) (λ n. sum_by (λ v. times n (numbers v)) vs),
    total_most base count (tickets v),
    each 0 v refl,
    total_least passes (numbers v) (λ n far. omega (arith, below n far, sum_by-cons (λ v. times n (numbers v)) v vs)),
    crowd base count passes vs (λ i w at. each (suc i) w at) (λ n far. omega (arith, below n far, sum_by-cons (λ v. times n (numbers v)) v vs)),
  )

  -- if each ticket and each number is in one place, there are at most as many tickets as numbers
  pub no_more_tickets : (base count passes : ℕ) (vs : List A) → ((i : ℕ) (v : A) → get_elem? vs i ≡ some v → length (tickets v) ≤ length (numbers v))
      → ((t : ℕ) → base ≤ t → t < base + count → sum_by (λ v. times t (tickets v)) vs ≡ 1) → ((n : ℕ) → n < passes → sum_by (λ v. times n (numbers v)) vs ≡ 1) → ((n : ℕ) → passes ≤ n → sum_by (λ v. times n (numbers v)) vs ≡ 0)
      → count ≤ passes
  no_more_tickets base count passes vs each out once below = omega (
    arith,
    crowd base count passes vs each below,
    total_ones base count (λ t. sum_by (λ v. times t (tickets v)) vs) out,
    total_ones 0 passes (λ n. sum_by (λ v. times n (numbers v)) vs) (λ n _ less. once n (omega arith)),
  )
