-- A word and the set that it stands for: each bit is a member, and each set comes from one word.
use Rattle.std.proofs.Common.{◌≡◌, ℕ, zero, suc, ◌+◌, ◌*◌, ◌/◌, ◌%◌, ◌^◌, ◌<◌, ◌==◌, ◌||◌, Bool, true, false, cond, List, ◌∷◌, refl, sym, ap, subst, ◌∙◌, arith, zero-add, add-one}
use Rattle.std.specs.List.{list_any}
use Rattle.std.specs.Int.{bit_at}
use Rattle.std.specs.FinSet.{contains, contains-from_list_nat}
use Rattle.std.proofs.lemmas.Nat.Bits.{bit_at-suc, bit_at_lowest, bit_at-zero}
use Rattle.std.proofs.lemmas.Bool.Decides.{nat_tests}
use lib.Pow.{shr_lt}
use Rattle.rset.specs.Sets.{Set}
use Rattle.rset.specs.Words.{places, set_of, word_from, word_of}

pub half_lt : (n word : ℕ) → word < 2 ^ suc n → word / 2 < 2 ^ n
half_lt n word h = shr_lt n 1 (subst (λ (x : ℕ). word < 2 ^ x) (sym (add-one n)) h)

equal_self : (n : ℕ) → (n == n) ≡ true
equal_self n = grind (arith, nat_tests)

unequal : (m n : ℕ) → m < n → (m == n) ≡ false
unequal m n h = grind (arith, nat_tests)

plus_zero : (n : ℕ) → n + 0 ≡ n
plus_zero n = omega arith

shifted : (low j : ℕ) → low + suc j ≡ suc low + j
shifted low j = omega arith

-- a first element that passes, where none of the rest does
first_passes : (b : Bool) (p : ℕ → Bool) (x : ℕ) (xs : List ℕ) → p x ≡ true → list_any p xs ≡ false → list_any p (cond b (x ∷ xs) xs) ≡ b
first_passes true p x xs one none = ap (λ a. a || list_any p xs) one
first_passes false p x xs one none = none

-- a first element that does not pass changes nothing
first_fails : (b : Bool) (p : ℕ → Bool) (x : ℕ) (xs : List ℕ) → p x ≡ false → list_any p (cond b (x ∷ xs) xs) ≡ list_any p xs
first_fails true p x xs one = ap (λ a. a || list_any p xs) one
first_fails false p x xs one = refl

-- the places begin at low
pub not_below : (n low word q : ℕ) → q < low → list_any (λ y. y == q) (places low n word) ≡ false
unfolding places
not_below zero low word q h = refl
not_below (suc n) low word q h =
    first_fails (word % 2 == 1) (λ y. y == q) low (places (suc low) n (word / 2)) (above low q h) ∙ not_below n (suc low) (word / 2) q (omega arith)
  where
    above : (low q : ℕ) → q < low → (low == q) ≡ false
    above low q h = grind (arith, nat_tests)

-- a place is there exactly where its bit is 1
pub at_place : (n low word j : ℕ) → word < 2 ^ n → list_any (λ y. y == (low + j)) (places low n word) ≡ (bit_at word j == 1)
unfolding places
at_place zero low word j h =
    let none : word ≡ 0 = omega arith in
    ap (λ x. x == 1) (sym (ap (λ w. bit_at w j) none ∙ bit_at-zero j))
at_place (suc n) low word zero h =
    ap (λ q. list_any (λ y. y == q) (cond (word % 2 == 1) (low ∷ places (suc low) n (word / 2)) (places (suc low) n (word / 2)))) (plus_zero low)
    ∙ first_passes (word % 2 == 1) (λ y. y == low) low (places (suc low) n (word / 2)) (equal_self low) (not_below n (suc low) (word / 2) low (omega arith))
    ∙ ap (λ x. x == 1) (sym (bit_at_lowest word))
at_place (suc n) low word (suc j) h =
    first_fails (word % 2 == 1) (λ y. y == (low + suc j)) low (places (suc low) n (word / 2)) (unequal low (low + suc j) (omega arith))
    ∙ ap (λ q. list_any (λ y. y == q) (places (suc low) n (word / 2))) (shifted low j)
    ∙ at_place n (suc low) (word / 2) j (half_lt n word h)
    ∙ ap (λ x. x == 1) (sym (bit_at-suc word j))

pub contains-set_of : (word l : ℕ) → word < 2 ^ 64 → contains (set_of word) l ≡ (bit_at word l == 1)
unfolding set_of
contains-set_of word l h = contains-from_list_nat _ l ∙ ap (λ q. list_any (λ y. y == q) (places 0 64 word)) (sym (zero-add l)) ∙ at_place 64 0 word l h

joined : (m word : ℕ) → m ≡ word % 2 → cond (m == 1) 1 0 + 2 * (word / 2) ≡ word
joined m word h = grind (arith, nat_tests)

-- a set with the members that a word has ones is kept as that word
word_from-is : (n low word : ℕ) (s : Set) → word < 2 ^ n → ((j : ℕ) → contains s (low + j) ≡ (bit_at word j == 1)) → word_from low n s ≡ word
unfolding word_from
word_from-is zero low word s h is = omega arith
word_from-is (suc n) low word s h is =
    ap (λ w. cond (contains s low) 1 0 + 2 * w) (word_from-is n (suc low) (word / 2) s (half_lt n word h) (λ j. ap (contains s) (sym (shifted low j)) ∙ is (suc j) ∙ ap (λ x. x == 1) (bit_at-suc word j)))
    ∙ ap (λ b. cond b 1 0 + 2 * (word / 2)) (ap (contains s) (sym (plus_zero low)) ∙ is 0)
    ∙ joined (bit_at word 0) word (bit_at_lowest word)

pub word_of-set_of : (word : ℕ) → word < 2 ^ 64 → word_of (set_of word) ≡ word
unfolding word_of
word_of-set_of word h = word_from-is 64 0 word (set_of word) h (λ j. ap (contains (set_of word)) (zero-add j) ∙ contains-set_of word j h)
