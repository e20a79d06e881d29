-- A number that is written is read again.
use Rattle.std.proofs.Common.{◌≡◌, ℕ, ◌+◌, ◌-◌, ◌*◌, ◌^◌, ◌<◌, ◌≤◌, true, cond, List, length, Some, None, nat_lt, nat_le, refl, ap, ◌∙◌, arith}
use Rattle.std.specs.Prelude.{decimal, option_and_then}
use Rattle.std.specs.List.{list_all}
use Rattle.std.proofs.lemmas.Bool.{lt-ltb, le-leb, and_parts, and_from, leb-true}
use Rattle.std.proofs.lemmas.Fmt.{digits_decimal, digits_value-decimal, decimal_nonempty, length-decimal-le}
use Rattle.std.proofs.lemmas.Str.Parse.{IsDigitsTest, FoldsDigits, IsNumeralModel, numerals_by_fold}
use Rattle.rset.specs.declared.TheConstants.{SEATS}
use Rattle.rclaim.specs.declared.TheConstants.{LENGTH_LIMIT}
use Rattle.rtrace_form.specs.Numbers.{is_digit, read_on, is_number, number_told, length_told, cap_within, cap_told}

abbrev AreDigits : List ℕ → Type 0
AreDigits field = list_all is_digit field ≡ true

tells : IsDigitsTest AreDigits
tells = record {
  empty = refl;
  parts = λ c cs h. let parts = and_parts (is_digit c) (list_all is_digit cs) h in
      let range = and_parts (nat_le 48 c) (nat_le c 57) parts.0 in
      ((leb-true 48 c range.0, leb-true c 57 range.1), parts.1);
  more = λ c cs range h. and_from (is_digit c) (list_all is_digit cs) (and_from (nat_le 48 c) (nat_le c 57) (le-leb 48 c range.0) (le-leb c 57 range.1)) h;
}

folds : FoldsDigits read_on
folds = record {
  empty = λ n. refl;
  more = λ n c cs range. let turned : 10 * n + (c - 48) ≡ n * 10 + (c - 48) = omega arith in ap (λ m. read_on m cs) turned;
}

own : IsNumeralModel AreDigits (read_on 0)
own = numerals_by_fold AreDigits tells read_on folds

value_back : (n : ℕ) → n < 2 ^ 64 → read_on 0 (decimal n) ≡ n
value_back n h = digits_value-decimal own n h

pub digits_back : (n : ℕ) → n < 2 ^ 64 → list_all is_digit (decimal n) ≡ true
digits_back n h = digits_decimal own n h

is_number_back : (n : ℕ) → n < 2 ^ 64 → is_number (decimal n) ≡ true
is_number_back n h =
    let some = lt-ltb 0 (length (decimal n)) (decimal_nonempty n h) in
    let few = le-leb (length (decimal n)) 20 (length-decimal-le 20 n (omega arith) (omega arith) h) in
    let digits = digits_decimal own n h in
    let below : nat_lt (read_on 0 (decimal n)) (2 ^ 64) ≡ true = ap (λ m. nat_lt m (2 ^ 64)) (value_back n h) ∙ lt-ltb n (2 ^ 64) h in
    and_from _ _ (and_from _ _ (and_from _ _ some few) digits) below

pub number_back : (n : ℕ) → n < 2 ^ 64 → number_told (decimal n) ≡ Some n
number_back n h = ap (λ b. cond b (Some (read_on 0 (decimal n))) None) (is_number_back n h) ∙ ap (λ m. Some m) (value_back n h)

pub length_back : (n : ℕ) → n ≤ LENGTH_LIMIT → length_told (decimal n) ≡ Some n
unfolding length_told
length_back n h =
    ap (option_and_then (λ m. cond (nat_le m LENGTH_LIMIT) (Some m) None)) (number_back n (omega arith))
    ∙ ap (λ b. cond b (Some n) None) (le-leb n LENGTH_LIMIT h)

pub cap_back : (n : ℕ) → 1 ≤ n → n ≤ SEATS → cap_told (decimal n) ≡ Some n
unfolding cap_told
cap_back n low high =
    ap (option_and_then cap_within) (number_back n (omega arith))
    ∙ ap (λ b. cond b (Some n) None) (and_from _ _ (le-leb 1 n low) (le-leb n SEATS high))
