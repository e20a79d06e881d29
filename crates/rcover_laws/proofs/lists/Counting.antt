-- Counting: things that hit different places are at most as many as the places, and weigh at most as much as the heaviest of each.
use Rattle.std.proofs.Common.{◌≡◌, ◌<◌, ◌≤◌, ℕ, zero, suc, ◌+◌, ◌*◌, Bool, true, false, not, ◌&&◌, ◌||◌, cond, length, List, [], ◌∷◌, filter, map, refl, sym, ap, subst, ◌∙◌, inl, inr, arith}
use Rattle.std.specs.List.{list_any, count_by, range_with_len, AllByRecursion}
use Rattle.rmodel.specs.WellFormed.{EachPair}
use Rattle.rmodel.proofs.ListFacts.{Among, contrary, all_at, all_from, none_among, pairs_filter}
use Rattle.rmodel.proofs.reaching.Soundness.{count_first}
use Rattle.rmodel.proofs.settling.OneSettlement.{both_cases}
use Rattle.rbound.specs.Bounds.{largest}
use Rattle.rcover_laws.proofs.lists.Found.{of_filtered}

-- ---- sums, from the front

abbrev pub total : {X : Type 0} → (X → ℕ) → List X → ℕ
total f [] = 0
total f (x ∷ xs) = f x + total f xs

-- if at most one element passes, at most one is not left
module _ {X : Type 0} (p : X → Bool) where
  abbrev left : List X → List X
  left xs = filter (λ x. not (p x)) xs

  pub none_leaves : (xs : List X) → AllByRecursion (λ x. p x ≡ false) xs → left xs ≡ xs
  none_leaves [] none = refl
  none_leaves (x ∷ xs) none = ap (λ b. cond (not b) (x ∷ left xs) (left xs)) none.0 ∙ ap (λ ys. x ∷ ys) (none_leaves xs none.1)

  pub one_leaves : (xs : List X) → EachPair (λ x y. p x ≡ true → p y ≡ false) xs → length xs ≤ suc (length (left xs))
  one_leaves [] pairs = omega arith
  one_leaves (x ∷ xs) pairs = at (p x) refl (one_leaves xs pairs.1)
    where
      at : (b : Bool) → p x ≡ b → length xs ≤ suc (length (left xs)) → length (x ∷ xs) ≤ suc (length (cond (not b) (x ∷ left xs) (left xs)))
      at true is rest = let same = ap length (none_leaves xs (all_from (λ y. p y ≡ false) xs (λ y there. all_at (λ y. p x ≡ true → p y ≡ false) xs y pairs.0 there is))) in omega arith
      at false is rest = omega arith

  -- if one passes, the list is shorter
  pub some_leave : (xs : List X) → list_any p xs ≡ true → suc (length (left xs)) ≤ length xs
  some_leave [] some = contrary false some refl
  some_leave (x ∷ xs) some = at (p x) (λ off. some_leave xs (ap (λ b. b || list_any p xs) (sym off) ∙ some)) (no_more xs)
    where
      no_more : (ys : List X) → length (left ys) ≤ length ys
      no_more [] = omega arith
      no_more (y ∷ ys) = step (p y) (no_more ys)
        where
          step : (b : Bool) → length (left ys) ≤ length ys → length (cond (not b) (y ∷ left ys) (left ys)) ≤ length (y ∷ ys)
          step true rest = omega arith
          step false rest = omega arith

      at : (b : Bool) → (b ≡ false → suc (length (left xs)) ≤ length xs) → length (left xs) ≤ length xs → suc (length (cond (not b) (x ∷ left xs) (left xs))) ≤ length (x ∷ xs)
      at true fewer most = omega arith
      at false fewer most = let rest = fewer refl in omega arith

  -- the weight of what leaves
  pub weight_leaves : (f : X → ℕ) (g : ℕ) (xs : List X) → EachPair (λ x y. p x ≡ true → p y ≡ false) xs → AllByRecursion (λ x. p x ≡ true → f x ≤ g) xs → total f xs ≤ g + total f (left xs)
  weight_leaves f g [] pairs each = omega arith
  weight_leaves f g (x ∷ xs) pairs each = at (p x) refl (weight_leaves f g xs pairs.1 each.1)
    where
      at : (b : Bool) → p x ≡ b → total f xs ≤ g + total f (left xs) → f x + total f xs ≤ g + total f (cond (not b) (x ∷ left xs) (left xs))
      at true is rest =
          let same = ap (total f) (none_leaves xs (all_from (λ y. p y ≡ false) xs (λ y there. all_at (λ y. p x ≡ true → p y ≡ false) xs y pairs.0 there is))) in
          let less = each.0 is in omega arith
      at false is rest = omega arith

-- ---- places

counts_one : (b : Bool) → b ≡ true → 0 + cond b 1 0 ≡ 1
counts_one true h = refl
counts_one false h = contrary false h refl

not_so : (b : Bool) → not b ≡ true → b ≡ false
not_so true h = sym h
not_so false h = refl

module _ {X Y : Type 0} (hit : X → Y → Bool) where
  abbrev IsApart : X → X → Type 0
  IsApart d e = (y : Y) → hit d y ≡ true → hit e y ≡ false

  -- at most one hits a place
  one_hits : (y : Y) (ds : List X) → EachPair IsApart ds → EachPair (λ d e. hit d y ≡ true → hit e y ≡ false) ds
  one_hits y [] pairs = tt
  one_hits y (d ∷ ds) pairs = (all_from (λ e. hit d y ≡ true → hit e y ≡ false) ds (λ e there. all_at (IsApart d) ds e pairs.0 there y), one_hits y ds pairs.1)

  -- what does not hit the first place hits one of the others
  hit_later : (q : Y → Bool) (y : Y) (ys : List Y) (ds : List X) → AllByRecursion (λ d. list_any (λ y. q y && hit d y) (y ∷ ys) ≡ true) ds
      → AllByRecursion (λ d. list_any (λ y. q y && hit d y) ys ≡ true) (left (λ d. q y && hit d y) ds)
  hit_later q y ys ds each =
      of_filtered (λ d. list_any (λ y. q y && hit d y) (y ∷ ys) ≡ true) (λ d. list_any (λ y. q y && hit d y) ys ≡ true) (λ d. not (q y && hit d y))
      (λ d off on. ap (λ b. b || list_any (λ y. q y && hit d y) ys) (sym (not_so (q y && hit d y) off)) ∙ on) ds each

  pub pigeons : (q : Y → Bool) (ys : List Y) (ds : List X) → EachPair IsApart ds → AllByRecursion (λ d. list_any (λ y. q y && hit d y) ys ≡ true) ds → length ds ≤ count_by q ys
  pigeons q [] [] pairs each = omega arith
  pigeons q [] (d ∷ ds) pairs each = contrary false each.0 refl
  pigeons q (y ∷ ys) ds pairs each =
      let rest = pigeons q ys (left (λ d. q y && hit d y) ds) (pairs_filter IsApart (λ d. not (q y && hit d y)) ds pairs) (hit_later q y ys ds each) in
      let step = count_first q y ys in
      both_cases (q y)
      (λ on.
      let one = one_leaves (λ d. q y && hit d y) ds (subst (λ (b : Bool). EachPair (λ d e. (b && hit d y) ≡ true → (b && hit e y) ≡ false) ds) (sym on) (one_hits y ds pairs)) in
      let here : count_by q (y ∷ []) ≡ 1 = counts_one (q y) on in omega arith)
      (λ off.
      let none : left (λ d. q y && hit d y) ds ≡ ds = none_leaves (λ d. q y && hit d y) ds (all_from (λ d. (q y && hit d y) ≡ false) ds (λ d there. ap (λ b. b && hit d y) off)) in
      let same = ap length none in omega arith)

  pub weights : (len : X → ℕ) (g : Y → ℕ) → ((d : X) (y : Y) → hit d y ≡ true → len d ≤ g y) → (k : ℕ) (ys : List Y) (ds : List X) → EachPair IsApart ds → AllByRecursion (λ d. list_any (hit d) ys ≡ true) ds
      → length ds ≤ k → total len ds ≤ largest k (map g ys)
  weights len g light k ys [] pairs each few = omega arith
  weights len g light k [] (d ∷ ds) pairs each few = contrary false each.0 refl
  weights len g light zero (y ∷ ys) (d ∷ ds) pairs each few = absurd (omega arith)
  weights len g light (suc k) (y ∷ ys) (d ∷ ds) pairs each few =
      both_cases (list_any (λ d. hit d y) all)
      (λ some.
      let fewer = some_leave (λ d. hit d y) all some in
      let few' : length (left (λ d. hit d y) all) ≤ k = omega arith in
      let rest = weights len g light k ys (left (λ d. hit d y) all) (pairs_filter IsApart (λ d. not (hit d y)) all pairs) hit_rest few' in
      let one = weight_leaves (λ d. hit d y) len (g y) all (one_hits y all pairs) (all_from (λ d. hit d y ≡ true → len d ≤ g y) all (λ d there. light d y)) in omega arith)
      (λ none.
      let rest : total len all ≤ largest (suc k) (map g ys) = weights len g light (suc k) ys all pairs (all_from (λ d. list_any (hit d) ys ≡ true) all (λ e there.
      ap (λ b. b || list_any (hit e) ys) (sym (none_among (λ d. hit d y) all e none there)) ∙ all_at (λ d. list_any (hit d) (y ∷ ys) ≡ true) all e each there)) few in omega arith)
    where
      all : List X
      all = d ∷ ds

      hit_rest : AllByRecursion (λ d. list_any (hit d) ys ≡ true) (left (λ d. hit d y) all)
      hit_rest =
          of_filtered (λ d. list_any (hit d) (y ∷ ys) ≡ true) (λ d. list_any (hit d) ys ≡ true) (λ d. not (hit d y))
          (λ e off on. ap (λ b. b || list_any (hit e) ys) (sym (not_so (hit e y) off)) ∙ on) all each

-- ---- sums of few small numbers

pub total_within : {X : Type 0} (f : X → ℕ) (g : ℕ) (r : ℕ) (xs : List X) → length xs ≤ r → AllByRecursion (λ x. f x ≤ g) xs → total f xs ≤ r * g
total_within f g r [] few each = omega arith
total_within f g zero (x ∷ xs) few each = absurd (omega arith)
total_within f g (suc r) (x ∷ xs) few each = let rest = total_within f g r xs (omega arith) each.1 in let less = each.0 in omega arith

-- ---- numbers below another

pub in_range : (n a k : ℕ) → k < n → Among (a + k) (range_with_len a n)
in_range zero a k less = absurd (omega arith)
in_range (suc n) a zero less = inl (omega arith)
in_range (suc n) a (suc k) less = inr (subst (λ (m : ℕ). Among m (range_with_len (a + 1) n)) (same a k) (in_range n (a + 1) k (omega arith)))
  where
    same : (a k : ℕ) → (a + 1) + k ≡ a + suc k
    same a k = omega arith
