-- What each operation on a word does to the set that the word stands for.
use Rattle.std.proofs.Common.{◌≡◌, ◌≢◌, ℕ, zero, suc, ◌+◌, ◌-◌, ◌*◌, ◌/◌, ◌%◌, ◌^◌, ◌<◌, ◌≤◌, ◌==◌, ◌&&◌, ◌||◌, not, true, false, cond, min, max, ◌∷◌, sym, ap, ◌∙◌, ◌⊎◌, inl, inr, arith}
use Rattle.std.specs.Int.{bit_at, bit_not, trailing_zeros}
use Rattle.std.specs.Int.RustNames.{bit_and, bit_or}
use Rattle.std.specs.Int.Count.{ones, ones_step}
use mir.Syntax.{w64}
use Rattle.std.specs.Ordering.{nat_cmp}
use Rattle.std.specs.Cmp.{nat_cmp_total}
use Rattle.std.specs.FinSet.{empty, contains, insert, remove, union, intersection, difference, is_subset, len, from_list, contains-from_list_nat, len-empty, len-insert}
use Rattle.std.proofs.lemmas.Nat.Bits.{bit_at-zero, bit_at-lt, bit_at_and, bit_at_or, bit_at_not, bit_at_above, bit_at_set_same, bit_at_set_other, bit_at_clear_same, bit_at_clear_other, shr_and_one, bit_at-trailing_zeros, same_from_bits}
use Rattle.std.proofs.lemmas.Nat.{or_lt, and_le_l, ones_le_self}
use Rattle.std.proofs.lemmas.Bool.{true≢false, eqb-true, eq-eqb, ne_eqb, cases_eq, cases_lt, and_right, false_from_ne_true, true_from_ne_false}
use Rattle.std.proofs.lemmas.Bool.Decides.{nat_tests}
use Rattle.rset.specs.Sets.{Set, meets, all_below}
use Rattle.rset.specs.Words.{set_of, word_of, places}
use Rattle.rset.specs.WordFacts.{contains-set_of, word_of-set_of, not_below, half_lt}
use Rattle.rset.proofs.SetMembers.{same_test, same_members, contains_empty, contains_insert, contains_remove, contains_union, contains_intersection, contains_difference}
use Rattle.rset.proofs.SetsWithin.{within_by_difference, difference_by_within}
use Rattle.rset.proofs.SetsMeet.{apart_by_intersection, meets_by_intersection}
use Rattle.rset.proofs.SetsBelow.{all_below_from}

-- each word stands for a set of its own
pub set_of-injective : (a b : ℕ) → a < 2 ^ 64 → b < 2 ^ 64 → set_of a ≡ set_of b → a ≡ b
set_of-injective a b ha hb e = sym (word_of-set_of a ha) ∙ ap word_of e ∙ word_of-set_of b hb

pub set_of-zero : set_of 0 ≡ empty
set_of-zero = same_members _ _ (λ l. contains-set_of 0 l (omega arith) ∙ ap (λ b. b == 1) (bit_at-zero l) ∙ sym (contains_empty l))

pub empty_word : (n : ℕ) → n < 2 ^ 64 → set_of n ≡ empty → n ≡ 0
empty_word n h e = set_of-injective n 0 h (omega arith) (e ∙ sym set_of-zero)

-- the sets of two words by their bits
by_bits : (n : ℕ) (s : Set) → n < 2 ^ 64 → ((l : ℕ) → (bit_at n l == 1) ≡ contains s l) → set_of n ≡ s
by_bits n s h is = same_members (set_of n) s (λ l. contains-set_of n l h ∙ is l)

-- ---- bits

max_of_bits : (x y : ℕ) → x < 2 → y < 2 → (max x y == 1) ≡ ((x == 1) || (y == 1))
max_of_bits x y a b = grind (arith, nat_tests)

min_of_bits : (x y : ℕ) → x < 2 → y < 2 → (min x y == 1) ≡ ((x == 1) && (y == 1))
min_of_bits x y a b = grind (arith, nat_tests)

min_of_not : (x y : ℕ) → x < 2 → y < 2 → (min x (1 - y) == 1) ≡ ((x == 1) && not (y == 1))
min_of_not x y a b = grind (arith, nat_tests)

-- ---- operations

pub with_fits : (n k : ℕ) → n < 2 ^ 64 → bit_or n (1 * 2 ^ k % 2 ^ 64) < 2 ^ 64
with_fits n k h = let fits : 1 * 2 ^ k % 2 ^ 64 < 2 ^ 64 = omega arith in or_lt 64 n _ h fits

pub set_of-insert : (n k : ℕ) → n < 2 ^ 64 → k < 64 → set_of (bit_or n (1 * 2 ^ k % 2 ^ 64)) ≡ insert (set_of n) k
set_of-insert n k h small = by_bits _ _ (with_fits n k h) (λ l. at l (cases_eq l k) ∙ sym (contains_insert (set_of n) k l))
  where
    at : (l : ℕ) → (l ≡ k) ⊎ (l ≢ k) → (bit_at (bit_or n (1 * 2 ^ k % 2 ^ 64)) l == 1) ≡ ((l == k) || contains (set_of n) l)
    at l (inl same) =
        ap (λ b. b == 1) (ap (λ x. bit_at (bit_or n (1 * 2 ^ k % 2 ^ 64)) x) same ∙ bit_at_set_same w64 n k small)
        ∙ ap (λ b. b || contains (set_of n) l) (sym (eq-eqb l k same))
    at l (inr other) =
        ap (λ b. b == 1) (bit_at_set_other w64 n k small l other) ∙ sym (contains-set_of n l h)
        ∙ ap (λ b. b || contains (set_of n) l) (sym (ne_eqb l k other))

pub set_of-one : (k : ℕ) → k < 64 → set_of (1 * 2 ^ k % 2 ^ 64) ≡ insert empty k
set_of-one k small =
    ap set_of (sym (or_zero (1 * 2 ^ k % 2 ^ 64))) ∙ set_of-insert 0 k (omega arith) small
    ∙ ap (λ s. insert s k) set_of-zero
  where
    max_zero : (x : ℕ) → max 0 x ≡ x
    max_zero x = omega arith

    or_zero : (x : ℕ) → bit_or 0 x ≡ x
    or_zero x = same_from_bits _ _ (λ i. bit_at_or 0 x i ∙ ap (λ b. max b (bit_at x i)) (bit_at-zero i) ∙ max_zero (bit_at x i))

and_fits : (a b : ℕ) → a < 2 ^ 64 → bit_and a b < 2 ^ 64
and_fits a b h = let le = and_le_l a b in omega arith

pub set_of-remove : (n k : ℕ) → n < 2 ^ 64 → k < 64 → set_of (bit_and n (bit_not w64 (1 * 2 ^ k % 2 ^ 64))) ≡ remove (set_of n) k
set_of-remove n k h small = by_bits _ _ (and_fits n _ h) (λ l. at l (cases_eq l k) (cases_lt l 64) ∙ sym (contains_remove (set_of n) k l))
  where
    at : (l : ℕ) → (l ≡ k) ⊎ (l ≢ k) → (l < 64) ⊎ (64 ≤ l) → (bit_at (bit_and n (bit_not w64 (1 * 2 ^ k % 2 ^ 64))) l == 1) ≡ (not (l == k) && contains (set_of n) l)
    at l (inl same) size =
        ap (λ b. b == 1) (ap (λ x. bit_at (bit_and n (bit_not w64 (1 * 2 ^ k % 2 ^ 64))) x) same ∙ bit_at_clear_same w64 n k small)
        ∙ ap (λ b. not b && contains (set_of n) l) (sym (eq-eqb l k same))
    at l (inr other) (inl low) =
        ap (λ b. b == 1) (bit_at_clear_other w64 n k small l low other) ∙ sym (contains-set_of n l h)
        ∙ ap (λ b. not b && contains (set_of n) l) (sym (ne_eqb l k other))
    at l (inr other) (inr high) =
        ap (λ b. b == 1) (bit_at_above (bit_and n (bit_not w64 (1 * 2 ^ k % 2 ^ 64))) 64 l (and_fits n _ h) high)
        ∙ sym (and_right (not (l == k)) (contains (set_of n) l) (contains-set_of n l h ∙ ap (λ b. b == 1) (bit_at_above n 64 l h high)))

pub set_of-union : (a b : ℕ) → a < 2 ^ 64 → b < 2 ^ 64 → set_of (bit_or a b) ≡ union (set_of a) (set_of b)
set_of-union a b ha hb = by_bits _ _ (or_lt 64 a b ha hb) (λ l.
    ap (λ x. x == 1) (bit_at_or a b l) ∙ max_of_bits _ _ (bit_at-lt a l) (bit_at-lt b l)
    ∙ sym (contains_union (set_of a) (set_of b) l ∙ (λ i. contains-set_of a l ha i || contains-set_of b l hb i)))

pub set_of-intersection : (a b : ℕ) → a < 2 ^ 64 → b < 2 ^ 64 → set_of (bit_and a b) ≡ intersection (set_of a) (set_of b)
set_of-intersection a b ha hb = by_bits _ _ (and_fits a b ha) (λ l.
    ap (λ x. x == 1) (bit_at_and a b l) ∙ min_of_bits _ _ (bit_at-lt a l) (bit_at-lt b l)
    ∙ sym (contains_intersection (set_of a) (set_of b) l ∙ (λ i. contains-set_of a l ha i && contains-set_of b l hb i)))

pub set_of-difference : (a b : ℕ) → a < 2 ^ 64 → b < 2 ^ 64 → set_of (bit_and a (bit_not w64 b)) ≡ difference (set_of a) (set_of b)
set_of-difference a b ha hb = by_bits _ _ (and_fits a _ ha) (λ l.
    at l (cases_lt l 64)
    ∙ sym (contains_difference (set_of a) (set_of b) l ∙ (λ i. contains-set_of a l ha i && not (contains-set_of b l hb i))))
  where
    at : (l : ℕ) → (l < 64) ⊎ (64 ≤ l) → (bit_at (bit_and a (bit_not w64 b)) l == 1) ≡ ((bit_at a l == 1) && not (bit_at b l == 1))
    at l (inl low) =
        ap (λ x. x == 1) (bit_at_and a (bit_not w64 b) l ∙ ap (λ x. min (bit_at a l) x) (bit_at_not w64 b l hb low))
        ∙ min_of_not _ _ (bit_at-lt a l) (bit_at-lt b l)
    at l (inr high) =
        ap (λ x. x == 1) (bit_at_above (bit_and a (bit_not w64 b)) 64 l (and_fits a _ ha) high)
        ∙ ap (λ x. (x == 1) && not (bit_at b l == 1)) (sym (bit_at_above a 64 l ha high))

-- ---- tests

pub has_bit : (n l : ℕ) → n < 2 ^ 64 → (bit_and (n / 2 ^ l) 1 == 1) ≡ contains (set_of n) l
has_bit n l h = ap (λ x. x == 1) (shr_and_one n l) ∙ sym (contains-set_of n l h)

pub is_zero : (n : ℕ) (s : Set) → n < 2 ^ 64 → set_of n ≡ s → ((n == 0) ≡ true → s ≡ empty) × (s ≡ empty → (n == 0) ≡ true)
is_zero n s h e =
    ((λ z. sym e ∙ ap set_of (eqb-true n 0 z) ∙ set_of-zero), (λ none. eq-eqb n 0 (empty_word n h (e ∙ none))))

pub within_word : (a b : ℕ) → a < 2 ^ 64 → b < 2 ^ 64 → (bit_and a (bit_not w64 b) == 0) ≡ is_subset (set_of a) (set_of b)
within_word a b ha hb = same_test _ _
    (λ z. within_by_difference (set_of a) (set_of b) (sym (set_of-difference a b ha hb) ∙ ap set_of (eqb-true _ 0 z) ∙ set_of-zero))
    (λ h. eq-eqb _ 0 (empty_word _ (and_fits a _ ha) (set_of-difference a b ha hb ∙ difference_by_within (set_of a) (set_of b) h)))

pub meets_word : (a b : ℕ) → a < 2 ^ 64 → b < 2 ^ 64 → not (bit_and a b == 0) ≡ meets (set_of a) (set_of b)
meets_word a b ha hb = same_test _ _
    (λ n. true_from_ne_false (meets (set_of a) (set_of b)) (λ apart.
    let zero_word : bit_and a b ≡ 0 = empty_word _ (and_fits a b ha) (set_of-intersection a b ha hb ∙ meets_by_intersection (set_of a) (set_of b) apart) in
    true≢false (sym n ∙ ap not (eq-eqb _ 0 zero_word))))
    (λ m. ap not (false_from_ne_true (bit_and a b == 0) (λ z.
    true≢false (sym m ∙ apart_by_intersection (set_of a) (set_of b) (sym (set_of-intersection a b ha hb) ∙ ap set_of (eqb-true _ 0 z) ∙ set_of-zero)))))

pub below_64 : (n : ℕ) → n < 2 ^ 64 → all_below 64 (set_of n) ≡ true
below_64 n h = all_below_from 64 (set_of n) (λ l there. small l there (cases_lt l 64))
  where
    small : (l : ℕ) → contains (set_of n) l ≡ true → (l < 64) ⊎ (64 ≤ l) → l < 64
    small l there (inl low) = low
    small l there (inr high) =
        absurd (true≢false (sym there ∙ contains-set_of n l h ∙ ap (λ b. b == 1) (bit_at_above n 64 l h high)))

-- ---- the number of members

ones_places : (n low word : ℕ) → word < 2 ^ n → ones word ≡ len (from_list {R = nat_cmp} (places low n word))
unfolding places
ones_places zero low word h = let few = ones_le_self word in let none : ones word ≡ 0 = omega arith in none ∙ sym (len-empty nat_cmp)
ones_places (suc n) low word h =
    ones_step word
    ∙ ap (λ x. word % 2 + x) (ones_places n (suc low) (word / 2) (half_lt n word h))
    ∙ one_more (word % 2) (omega arith)
  where
    absent : contains (from_list {R = nat_cmp} (places (suc low) n (word / 2))) low ≡ false
    absent = contains-from_list_nat (places (suc low) n (word / 2)) low ∙ not_below n (suc low) (word / 2) low (omega arith)

    one_more : (b : ℕ) → b < 2 → b + len (from_list {R = nat_cmp} (places (suc low) n (word / 2))) ≡ len (from_list {R = nat_cmp} (cond (b == 1) (low ∷ places (suc low) n (word / 2)) (places (suc low) n (word / 2))))
    one_more zero h = omega arith
    one_more (suc zero) h =
        sym (len-insert nat_cmp_total (from_list (places (suc low) n (word / 2))) low
        ∙ ap (λ c. cond c (len (from_list {R = nat_cmp} (places (suc low) n (word / 2)))) (len (from_list {R = nat_cmp} (places (suc low) n (word / 2))) + 1)) absent
        ∙ omega arith)
    one_more (suc (suc b)) h = absurd (omega arith)

pub ones_len : (n : ℕ) → n < 2 ^ 64 → ones n ≡ len (set_of n)
unfolding set_of
ones_len n h = ones_places 64 0 n h

-- ---- the least member

pub least_there : (n : ℕ) → n < 2 ^ 64 → n ≢ 0 → contains (set_of n) (trailing_zeros w64 n) ≡ true
least_there n h some = contains-set_of n _ h ∙ ap (λ b. b == 1) (bit_at-trailing_zeros w64 n (omega arith) h).1

pub least_small : (n : ℕ) → n < 2 ^ 64 → n ≢ 0 → trailing_zeros w64 n < 64
least_small n h some = (bit_at-trailing_zeros w64 n (omega arith) h).0

pub least_first : (n : ℕ) → n < 2 ^ 64 → n ≢ 0 → (m : ℕ) → contains (set_of n) m ≡ true → trailing_zeros w64 n ≤ m
least_first n h some m there = order (cases_lt m (trailing_zeros w64 n))
  where
    order : (m < trailing_zeros w64 n) ⊎ (trailing_zeros w64 n ≤ m) → trailing_zeros w64 n ≤ m
    order (inl lower) =
        absurd (true≢false (sym there ∙ contains-set_of n m h ∙ ap (λ b. b == 1) ((bit_at-trailing_zeros w64 n (omega arith) h).2 m lower)))
    order (inr le) = le
