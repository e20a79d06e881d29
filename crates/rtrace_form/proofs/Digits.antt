-- Reading a field digit by digit gives the number of the whole field.
use Rattle.std.proofs.Common.{◌≡◌, ℕ, ◌+◌, ◌-◌, ◌*◌, ◌^◌, ◌<◌, ◌≤◌, Bool, true, false, ◌&&◌, cond, List, [], ◌∷◌, length, drop, get_or, Option, Some, None, nat_lt, nat_le, refl, sym, ap, ◌∙◌, arith}
use Rattle.std.specs.Prelude.{option_and_then}
use Rattle.std.specs.List.{list_all}
use Rattle.std.proofs.lemmas.Bool.{lt-ltb, le-ltb, ltb-false, le-leb}
use Rattle.std.proofs.lemmas.List.{at_drop_more, at_drop_all}
use Rattle.rtrace_form.specs.Numbers.{is_digit, read_on, digit_behind, number_told}

-- the number once these digits follow those of n, one after another
unfoldable pub told_on : ℕ → List ℕ → Option ℕ
told_on n [] = Some n
told_on n (c ∷ cs) = option_and_then (λ m. told_on m cs) (digit_behind n c)

-- more digits make no number less
read_on_grows : (n : ℕ) (field : List ℕ) → n ≤ read_on n field
read_on_grows n [] = omega arith
read_on_grows n (c ∷ cs) = omega (arith, read_on_grows (10 * n + (c - 48)) cs)

too_large : (top n : ℕ) (field : List ℕ) → nat_lt n top ≡ false → nat_lt (read_on n field) top ≡ false
too_large top n field h = le-ltb _ _ (omega (arith, read_on_grows n field, ltb-false n top h))

-- the number of the digits after those of n, as a whole
unfoldable whole : ℕ → List ℕ → Option ℕ
whole n field = cond (list_all is_digit field && nat_lt (read_on n field) (2 ^ 64)) (Some (read_on n field)) None

no_number : (all below : Bool) (n : ℕ) → below ≡ false → cond (all && below) (Some n) None ≡ None
no_number true below n h = ap (λ b. cond b (Some n) None) h
no_number false below n h = refl

one_digit : (digit below : Bool) (n : ℕ) (cs : List ℕ) → nat_lt n (2 ^ 64) ≡ below → (nat_lt n (2 ^ 64) ≡ true → told_on n cs ≡ whole n cs)
    → option_and_then (λ m. told_on m cs) (cond (digit && below) (Some n) None) ≡ cond ((digit && list_all is_digit cs) && nat_lt (read_on n cs) (2 ^ 64)) (Some (read_on n cs)) None
unfolding whole
one_digit false below n cs is rest = refl
one_digit true true n cs is rest = rest is
one_digit true false n cs is rest = sym (no_number (list_all is_digit cs) _ (read_on n cs) (too_large (2 ^ 64) n cs is))

told_whole : (n : ℕ) (field : List ℕ) → nat_lt n (2 ^ 64) ≡ true → told_on n field ≡ whole n field
unfolding told_on whole
told_whole n [] h = sym (ap (λ b. cond b (Some n) None) h)
told_whole n (c ∷ cs) h = one_digit (is_digit c) (nat_lt (10 * n + (c - 48)) (2 ^ 64)) (10 * n + (c - 48)) cs refl (told_whole (10 * n + (c - 48)) cs)

-- the number of a field of 1 to 20 bytes
pub told_by_digits : (field : List ℕ) → 0 < length field → length field ≤ 20 → number_told field ≡ told_on 0 field
unfolding whole
told_by_digits field some few =
    ap (λ b. cond (b && nat_le (length field) 20 && list_all is_digit field && nat_lt (read_on 0 field) (2 ^ 64)) (Some (read_on 0 field)) None) (lt-ltb 0 (length field) some)
    ∙ ap (λ b. cond (b && list_all is_digit field && nat_lt (read_on 0 field) (2 ^ 64)) (Some (read_on 0 field)) None) (le-leb (length field) 20 few)
    ∙ sym (told_whole 0 field refl)

-- the digits before i have given n
pub record IsToldBefore (field : List ℕ) (i n : ℕ) : Type 0 where
  pub rest : told_on n (drop i field) ≡ told_on 0 field

module _ {field : List ℕ} {i n : ℕ} (h : IsToldBefore field i n) where
  next_digit : i < length field → told_on 0 field ≡ option_and_then (λ m. told_on m (drop (i + 1) field)) (digit_behind n (get_or field i 0))
  unfolding told_on
  next_digit there = sym h.rest ∙ at_drop_more (told_on n) field i 0 there

  pub told-more : (m : ℕ) → i < length field → digit_behind n (get_or field i 0) ≡ Some m → IsToldBefore field (i + 1) m
  told-more m there is = record { rest = sym (next_digit there ∙ ap (option_and_then (λ m. told_on m (drop (i + 1) field))) is) }

  pub told-none : i < length field → digit_behind n (get_or field i 0) ≡ None → told_on 0 field ≡ None
  told-none there is = next_digit there ∙ ap (option_and_then (λ m. told_on m (drop (i + 1) field))) is

  pub told-all : length field ≤ i → told_on 0 field ≡ Some n
  unfolding told_on
  told-all behind = sym h.rest ∙ at_drop_all (told_on n) field i behind
