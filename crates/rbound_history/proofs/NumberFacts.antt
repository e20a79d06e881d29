-- The numbers of different keys when one more comes.
use Rattle.std.proofs.Common.{◌≡◌, ◌≤◌, ◌+◌, ◌==◌, ◌||◌, not, ℕ, suc, Bool, true, false, cond, List, [], ◌∷◌, ◌++◌, length, Some, None, unwrap_or, refl, sym, ap, ◌∙◌, arith}
use Rattle.std.specs.Prelude.{nat_lt}
use Rattle.std.specs.List.{list_any, position, position_or_len}
use Rattle.std.specs.Ordering.{eq_by_cmp}
use Rattle.std.specs.Cmp.{IsEquivalence}
use Rattle.std.specs.BTreeMap.{BTreeMap, get, Updates}
use Rattle.std.specs.declared.cmp.Ordering.{Ordering}
use Rattle.std.proofs.lemmas.Bool.Decides.{nat_tests}
use Rattle.rbound_history.specs.Numbered.{insert_key}

-- ---- places in a list

module _ {X : Type 0} (p : X → Bool) where
  within : (xs : List X) → position_or_len p xs ≤ length xs
  within [] = omega arith
  within (x ∷ xs) = at (p x) (position_or_len p xs) (length xs) (within xs)
    where
      at : (b : Bool) (m n : ℕ) → m ≤ n → cond (not b) (1 + m) 0 ≤ suc n
      at true m n h = omega arith
      at false m n h = omega arith

  any_within : (xs : List X) → list_any p xs ≡ nat_lt (position_or_len p xs) (length xs)
  any_within [] = refl
  any_within (x ∷ xs) = at (p x) (list_any p xs) (position_or_len p xs) (length xs) (any_within xs)
    where
      next : (m n : ℕ) → nat_lt m n ≡ nat_lt (1 + m) (suc n)
      next m n = grind (arith, nat_tests)

      first : (n : ℕ) → true ≡ nat_lt 0 (suc n)
      first n = grind (arith, nat_tests)

      at : (b c : Bool) (m n : ℕ) → c ≡ nat_lt m n → (b || c) ≡ nat_lt (cond (not b) (1 + m) 0) (suc n)
      at true c m n h = first n
      at false c m n h = h ∙ next m n

  place_pushed : (xs : List X) (y : X) → position_or_len p (xs ++ y ∷ []) ≡ cond (list_any p xs) (position_or_len p xs) (cond (p y) (length xs) (suc (length xs)))
  place_pushed [] y = at (p y)
    where
      at : (b : Bool) → cond (not b) (1 + 0) 0 ≡ cond b 0 1
      at true = refl
      at false = omega arith
  place_pushed (x ∷ xs) y =
      ap (λ n. cond (not (p x)) (1 + n) 0) (place_pushed xs y) ∙ at (p x) (list_any p xs) (p y) (position_or_len p xs) (length xs)
    where
      next : (n : ℕ) → 1 + n ≡ suc n
      next n = omega arith

      at : (b c d : Bool) (m n : ℕ) → cond (not b) (1 + cond c m (cond d n (suc n))) 0 ≡ cond (b || c) (cond (not b) (1 + m) 0) (cond d (suc n) (suc (suc n)))
      at true c d m n = refl
      at false true d m n = refl
      at false false true m n = next n
      at false false false m n = next (suc n)

  length_pushed : (xs : List X) (y : X) → length (xs ++ y ∷ []) ≡ suc (length xs)
  length_pushed [] y = refl
  length_pushed (x ∷ xs) y = ap suc (length_pushed xs y)

  -- the number of a key, where there is one
  pub number_is : (xs : List X) → unwrap_or (position p xs) (length xs) ≡ position_or_len p xs
  number_is xs = at (position_or_len p xs) (length xs) (within xs)
    where
      at : (m n : ℕ) → m ≤ n → unwrap_or (cond (nat_lt m n) (Some m) None) n ≡ m
      at m n h = grind (arith, nat_tests)

  pub new_where : (xs : List X) → (position_or_len p xs == length xs) ≡ not (list_any p xs)
  new_where xs = at (position_or_len p xs) (length xs) (within xs) ∙ ap not (sym (any_within xs))
    where
      at : (m n : ℕ) → m ≤ n → (m == n) ≡ not (nat_lt m n)
      at m n h = grind (arith, nat_tests)

  known : (xs : List X) → list_any p xs ≡ true → position p xs ≡ Some (position_or_len p xs)
  known xs some = ap (λ b. cond b (Some (position_or_len p xs)) None) (sym (any_within xs) ∙ some)

  unknown : (xs : List X) → list_any p xs ≡ false → position p xs ≡ None
  unknown xs none = ap (λ b. cond b (Some (position_or_len p xs)) None) (sym (any_within xs) ∙ none)

  new_last : (xs : List X) (y : X) → list_any p xs ≡ false → p y ≡ true → position p (xs ++ y ∷ []) ≡ Some (position_or_len p xs)
  new_last xs y none is =
      at (position_or_len p xs) (length xs) (position_or_len p (xs ++ y ∷ [])) (length (xs ++ y ∷ [])) (within xs) (sym (any_within xs) ∙ none)
      (place_pushed xs y ∙ (λ i. cond (none i) (position_or_len p xs) (cond (is i) (length xs) (suc (length xs))))) (length_pushed xs y)
    where
      at : (m n k l : ℕ) → m ≤ n → nat_lt m n ≡ false → k ≡ n → l ≡ suc n → cond (nat_lt k l) (Some k) None ≡ Some m
      at m n k l h a b c = grind (arith, nat_tests)

  other_last : (xs : List X) (y : X) → p y ≡ false → position p (xs ++ y ∷ []) ≡ position p xs
  other_last xs y not_it = at (list_any p xs) refl
    where
      both : (m n k l : ℕ) → nat_lt m n ≡ true → k ≡ m → l ≡ suc n → cond (nat_lt k l) (Some k) None ≡ Some m
      both m n k l a b c = grind (arith, nat_tests)

      none : (n k l : ℕ) → k ≡ suc n → l ≡ suc n → cond (nat_lt k l) (Some k) None ≡ None
      none n k l b c = grind (arith, nat_tests)

      at : (b : Bool) → list_any p xs ≡ b → position p (xs ++ y ∷ []) ≡ position p xs
      at true some =
          both (position_or_len p xs) (length xs) _ _ (sym (any_within xs) ∙ some) (place_pushed xs y ∙ ap (λ c. cond c (position_or_len p xs) (cond (p y) (length xs) (suc (length xs)))) some) (length_pushed xs y)
          ∙ sym (known xs some)
      at false lacks =
          none (length xs) _ _ (place_pushed xs y ∙ (λ i. cond (lacks i) (position_or_len p xs) (cond (not_it i) (length xs) (suc (length xs))))) (length_pushed xs y) ∙ sym (unknown xs lacks)

-- ---- one more key

module _ {K : Type 0} (E : K → K → Bool) (same : IsEquivalence E) (keys : List K) (key : K) where
  -- a key that is equal to it has its number
  pub number_of_same : (q : K) → E key q ≡ true → position (E q) (insert_key E keys key) ≡ Some (position_or_len (E key) keys)
  number_of_same q is = (λ i. position (λ z. sym (same.congr key q z is) i) (insert_key E keys key)) ∙ at (list_any (E key) keys) refl
    where
      at : (b : Bool) → list_any (E key) keys ≡ b → position (E key) (insert_key E keys key) ≡ Some (position_or_len (E key) keys)
      at true some = ap (λ c. position (E key) (cond c keys (keys ++ key ∷ []))) some ∙ known (E key) keys some
      at false none = ap (λ c. position (E key) (cond c keys (keys ++ key ∷ []))) none ∙ new_last (E key) keys key none (same.refl key)

  -- another keeps its own
  pub number_of_other : (q : K) → E key q ≡ false → position (E q) (insert_key E keys key) ≡ position (E q) keys
  number_of_other q is_not = at (list_any (E key) keys) refl
    where
      at : (b : Bool) → list_any (E key) keys ≡ b → position (E q) (insert_key E keys key) ≡ position (E q) keys
      at true some = ap (λ c. position (E q) (cond c keys (keys ++ key ∷ []))) some
      at false none = ap (λ c. position (E q) (cond c keys (keys ++ key ∷ []))) none ∙ other_last (E q) keys key (same.symm q key ∙ is_not)

module _ {K : Type 0} (cmp : K → K → Ordering) (E : K → K → Bool) (same : IsEquivalence E) (ties : (x y : K) → E x y ≡ eq_by_cmp cmp x y) (keys : List K) (key : K) (old new : BTreeMap K ℕ) (n : ℕ) (updates : Updates cmp old new key (Some n)) (is : n ≡ position_or_len (E key) keys) where
  -- *A map has the number of a key once one more came, where that one has its own*
  pub number_with : (q : K) → get cmp old q ≡ position (E q) keys → get cmp new q ≡ position (E q) (insert_key E keys key)
  number_with q was = at (E key q) refl
    where
      at : (b : Bool) → E key q ≡ b → get cmp new q ≡ position (E q) (insert_key E keys key)
      at true yes_it =
          updates.0 q ∙ ap (λ c. cond c (Some n) (get cmp old q)) (sym (ties key q) ∙ yes_it) ∙ ap Some is ∙ sym (number_of_same E same keys key q yes_it)
      at false not_it =
          updates.0 q ∙ ap (λ c. cond c (Some n) (get cmp old q)) (sym (ties key q) ∙ not_it) ∙ was ∙ sym (number_of_other E same keys key q not_it)

module _ {K : Type 0} (cmp : K → K → Ordering) (E : K → K → Bool) (keys : List K) (key : K) (numbers : BTreeMap K ℕ) (was : get cmp numbers key ≡ position (E key) keys) (n new : ℕ) (got : n ≡ unwrap_or (get cmp numbers key) new) (last : new ≡ length keys) where
  -- the number that the map gives, with the next number for a key that it has not
  pub number_got : n ≡ position_or_len (E key) keys
  number_got = got ∙ (λ i. unwrap_or (was i) (last i)) ∙ number_is (E key) keys

  -- is the next one exactly where the key is new
  pub is_new : (n == new) ≡ not (list_any (E key) keys)
  is_new = (λ i. number_got i == last i) ∙ new_where (E key) keys

  negated : (b : Bool) → not b ≡ true → b ≡ false
  negated true h = sym h
  negated false h = refl

  affirmed : (b : Bool) → not b ≡ false → b ≡ true
  affirmed true h = refl
  affirmed false h = sym h

  pub keys_more : (n == new) ≡ true → insert_key E keys key ≡ keys ++ key ∷ []
  keys_more h = ap (λ b. cond b keys (keys ++ key ∷ [])) (negated (list_any (E key) keys) (sym is_new ∙ h))

  pub keys_same : (n == new) ≡ false → insert_key E keys key ≡ keys
  keys_same h = ap (λ b. cond b keys (keys ++ key ∷ [])) (affirmed (list_any (E key) keys) (sym is_new ∙ h))
