-- Texts with byte order marks, and with the end of a line in front or in between.
use Rattle.std.proofs.Common.{◌≡◌, ◌⊎◌, ℕ, suc, ◌+◌, ◌-◌, ◌≤◌, ◌<◌, ◌==◌, Bool, true, false, ◌&&◌, cond, zero, List, [], ◌∷◌, ◌++◌, length, take, drop, Option, Some, get_or, inl, inr, refl, sym, ap, subst, ◌∙◌, arith, append_assoc}
use Rattle.std.proofs.lemmas.List.{take-append-drop, take_all, length-drop}
use Rattle.std.proofs.lemmas.Option.{slice_get_within, get_or_from_slice_get}
use Rattle.std.proofs.Math.Seq.{drop-cons}
use Rattle.std.specs.Prelude.{IfSome, slice_get}
use Rattle.csv.specs.Machine.{next_record}
use Rattle.csv.specs.Reading.{AreRecords, Reached, default_config, strip_bom, is_bom}
use Rattle.csv.specs.declared.parser.State.TheVariants as st
use Rattle.rtrace_form.specs.Records.{Row, AreRowsOf}
use Rattle.rshort.specs.Closed.{state_after, IsOutside, IsEnd, mark_in}
use Rattle.rshort.specs.Cut.{IsCutText, IsShortened, MayBeCut}
use Rattle.rshort.proofs.Closed.{cut_before}

-- ---- the end of a line is no part of a byte order mark

module _ (e : ℕ) (first : (e == 239) ≡ false) (second : (e == 187) ≡ false) (third : (e == 191) ≡ false) where
  line_first : (ys : List ℕ) → strip_bom (e ∷ ys) ≡ e ∷ ys
  unfolding strip_bom
  line_first [] = refl
  line_first (x ∷ []) = refl
  line_first (x ∷ y ∷ ys) = ap (λ (t : Bool). cond ((t && (x == 187)) && (y == 191)) ys (e ∷ x ∷ y ∷ ys)) first

  line_second : (a : ℕ) (ys : List ℕ) → strip_bom (a ∷ e ∷ ys) ≡ a ∷ e ∷ ys
  unfolding strip_bom
  line_second a [] = refl
  line_second a (x ∷ ys) =
      ap (λ (t : Bool). cond (((a == 239) && t) && (x == 191)) ys (a ∷ e ∷ x ∷ ys)) second
      ∙ elim (a == 239) as (λ t. cond ((t && false) && (x == 191)) ys (a ∷ e ∷ x ∷ ys) ≡ a ∷ e ∷ x ∷ ys) [
        | true ↦ refl
        | false ↦ refl
      ]

  line_third : (a b : ℕ) (ys : List ℕ) → strip_bom (a ∷ b ∷ e ∷ ys) ≡ a ∷ b ∷ e ∷ ys
  unfolding strip_bom
  line_third a b ys =
      ap (λ (t : Bool). cond (((a == 239) && (b == 187)) && t) ys (a ∷ b ∷ e ∷ ys)) third
      ∙ elim ((a == 239) && (b == 187)) as (λ t. cond (t && false) ys (a ∷ b ∷ e ∷ ys) ≡ a ∷ b ∷ e ∷ ys) [
        | true ↦ refl
        | false ↦ refl
      ]

  line_joined : (xs ys : List ℕ) → strip_bom (xs ++ e ∷ ys) ≡ strip_bom xs ++ e ∷ ys
  unfolding strip_bom
  line_joined [] ys = line_first ys
  line_joined (a ∷ []) ys = line_second a ys
  line_joined (a ∷ b ∷ []) ys = line_third a b ys
  line_joined (a ∷ b ∷ c ∷ xs) ys = elim (is_bom a b c) as (λ t. cond t (xs ++ e ∷ ys) (a ∷ b ∷ c ∷ (xs ++ e ∷ ys)) ≡ cond t xs (a ∷ b ∷ c ∷ xs) ++ e ∷ ys) [
    | true ↦ refl
    | false ↦ refl
  ]

bom_first : (e : ℕ) → (e ≡ 10) ⊎ (e ≡ 13) → (ys : List ℕ) → strip_bom (e ∷ ys) ≡ e ∷ ys
bom_first e (inl is) ys = subst (λ b. strip_bom (b ∷ ys) ≡ b ∷ ys) (sym is) (line_first 10 refl refl refl ys)
bom_first e (inr is) ys = subst (λ b. strip_bom (b ∷ ys) ≡ b ∷ ys) (sym is) (line_first 13 refl refl refl ys)

bom_joined : (e : ℕ) → (e ≡ 10) ⊎ (e ≡ 13) → (xs ys : List ℕ) → strip_bom (xs ++ e ∷ ys) ≡ strip_bom xs ++ e ∷ ys
bom_joined e (inl is) xs ys = subst (λ b. strip_bom (xs ++ b ∷ ys) ≡ strip_bom xs ++ b ∷ ys) (sym is) (line_joined 10 refl refl refl xs ys)
bom_joined e (inr is) xs ys = subst (λ b. strip_bom (xs ++ b ∷ ys) ≡ strip_bom xs ++ b ∷ ys) (sym is) (line_joined 13 refl refl refl xs ys)

-- ---- in front of a record it is skipped

same_read : (xs ys : List ℕ) (rows : List Row) → next_record default_config st.StartRecord [] [] xs ≡ next_record default_config st.StartRecord [] [] ys → AreRecords default_config st.StartRecord ys rows
    → AreRecords default_config st.StartRecord xs rows
unfolding Reached
same_read xs ys [] same h = (st.StartRecord, xs, (refl, refl), same ∙ (λ i. next_record default_config (h.2.0 i) [] [] (h.2.1 i)) ∙ h.3)
same_read xs ys (row ∷ rows) same h = (h.0, h.1, (h.2.0, same ∙ h.2.1, h.2.2, h.2.3), h.3)

lf_skipped : (ys : List ℕ) (rows : List Row) → AreRecords default_config st.StartRecord (10 ∷ ys) rows → AreRecords default_config st.StartRecord ys rows
unfolding next_record
lf_skipped ys rows h = same_read ys (10 ∷ ys) rows refl h

cr_skipped : (ys : List ℕ) (rows : List Row) → AreRecords default_config st.StartRecord (13 ∷ ys) rows → AreRecords default_config st.StartRecord ys rows
unfolding next_record
cr_skipped ys rows h = same_read ys (13 ∷ ys) rows refl h

line_skipped : (e : ℕ) → (e ≡ 10) ⊎ (e ≡ 13) → (ys : List ℕ) (rows : List Row) → AreRowsOf (e ∷ ys) rows → AreRecords default_config st.StartRecord ys rows
line_skipped e ends ys rows h = at ends (subst (λ (text : List ℕ). AreRecords default_config st.StartRecord text rows) (bom_first e ends ys) h)
  where
    at : (e ≡ 10) ⊎ (e ≡ 13) → AreRecords default_config st.StartRecord (e ∷ ys) rows → AreRecords default_config st.StartRecord ys rows
    at (inl is) h = lf_skipped ys rows (subst (λ b. AreRecords default_config st.StartRecord (b ∷ ys) rows) is h)
    at (inr is) h = cr_skipped ys rows (subst (λ b. AreRecords default_config st.StartRecord (b ∷ ys) rows) is h)

-- ---- the byte order mark

pub mark_short : (bytes : List ℕ) → length bytes < 3 → mark_in bytes ≡ 0
mark_short [] h = refl
mark_short (a ∷ []) h = refl
mark_short (a ∷ b ∷ []) h = refl
mark_short (a ∷ b ∷ c ∷ rest) h = absurd (omega arith)

pub mark_three : (bytes : List ℕ) → 3 ≤ length bytes → mark_in bytes ≡ cond (is_bom (get_or bytes 0 0) (get_or bytes 1 0) (get_or bytes 2 0)) 3 0
mark_three [] h = absurd (omega arith)
mark_three (a ∷ []) h = absurd (omega arith)
mark_three (a ∷ b ∷ []) h = absurd (omega arith)
mark_three (a ∷ b ∷ c ∷ rest) h = refl

pub mark_within : (bytes : List ℕ) → mark_in bytes ≤ length bytes
mark_within [] = omega arith
mark_within (a ∷ []) = omega arith
mark_within (a ∷ b ∷ []) = omega arith
mark_within (a ∷ b ∷ c ∷ rest) = elim (is_bom a b c) as (λ t. cond t 3 0 ≤ length (a ∷ b ∷ c ∷ rest)) [
  | true ↦ omega arith
  | false ↦ omega arith
]

mark_after : (bytes : List ℕ) → drop (mark_in bytes) bytes ≡ strip_bom bytes
unfolding strip_bom
mark_after [] = refl
mark_after (a ∷ []) = refl
mark_after (a ∷ b ∷ []) = refl
mark_after (a ∷ b ∷ c ∷ rest) = elim (is_bom a b c) as (λ t. drop (cond t 3 0) (a ∷ b ∷ c ∷ rest) ≡ cond t rest (a ∷ b ∷ c ∷ rest)) [
  | true ↦ refl
  | false ↦ refl
]

-- a front of a text has its mark
no_mark_front : (bytes : List ℕ) → mark_in bytes ≡ 0 → (at : ℕ) → strip_bom (take at bytes) ≡ take at bytes
unfolding strip_bom
no_mark_front [] none zero = refl
no_mark_front [] none (suc at) = refl
no_mark_front (a ∷ []) none zero = refl
no_mark_front (a ∷ []) none (suc zero) = refl
no_mark_front (a ∷ []) none (suc (suc at)) = refl
no_mark_front (a ∷ b ∷ []) none zero = refl
no_mark_front (a ∷ b ∷ []) none (suc zero) = refl
no_mark_front (a ∷ b ∷ []) none (suc (suc zero)) = refl
no_mark_front (a ∷ b ∷ []) none (suc (suc (suc at))) = refl
no_mark_front (a ∷ b ∷ c ∷ rest) none zero = refl
no_mark_front (a ∷ b ∷ c ∷ rest) none (suc zero) = refl
no_mark_front (a ∷ b ∷ c ∷ rest) none (suc (suc zero)) = refl
no_mark_front (a ∷ b ∷ c ∷ rest) none (suc (suc (suc at))) = elim (is_bom a b c) as (λ t. cond {A = ℕ} t 3 0 ≡ 0 → cond t (take at rest) (a ∷ b ∷ c ∷ take at rest) ≡ a ∷ b ∷ c ∷ take at rest) [
  | true ↦ λ none. absurd (omega (arith, none))
  | false ↦ λ none. refl
] none

none_more : (at : ℕ) → 0 + at ≡ at
none_more at = omega arith

three_more : (at : ℕ) → 3 + at ≡ suc (suc (suc at))
three_more at = omega arith

mark_front : (bytes : List ℕ) (at : ℕ) → strip_bom (take (mark_in bytes + at) bytes) ≡ take at (drop (mark_in bytes) bytes)
unfolding strip_bom
mark_front [] at = ap (λ n. strip_bom (take {A = ℕ} n [])) (none_more at) ∙ no_mark_front [] refl at
mark_front (a ∷ []) at = ap (λ n. strip_bom (take n (a ∷ []))) (none_more at) ∙ no_mark_front (a ∷ []) refl at
mark_front (a ∷ b ∷ []) at = ap (λ n. strip_bom (take n (a ∷ b ∷ []))) (none_more at) ∙ no_mark_front (a ∷ b ∷ []) refl at
mark_front (a ∷ b ∷ c ∷ rest) at = by (is_bom a b c) refl
  where
    by : (t : Bool) → is_bom a b c ≡ t → strip_bom (take (cond t 3 0 + at) (a ∷ b ∷ c ∷ rest)) ≡ take at (drop (cond t 3 0) (a ∷ b ∷ c ∷ rest))
    by true is = ap (λ n. strip_bom (take n (a ∷ b ∷ c ∷ rest))) (three_more at) ∙ ap (λ (t : Bool). cond t (take at rest) (a ∷ b ∷ c ∷ take at rest)) is
    by false is = ap (λ n. strip_bom (take n (a ∷ b ∷ c ∷ rest))) (none_more at) ∙ no_mark_front (a ∷ b ∷ c ∷ rest) (ap (λ (t : Bool). cond t 3 0) is) at

-- all after some bytes
pub all_after : (xs : List ℕ) (n : ℕ) → take (length xs - n) (drop n xs) ≡ drop n xs
all_after xs n = take_all (length xs - n) (drop n xs) (let size = length-drop n xs in omega (arith, size))

-- where a text has three bytes, what comes after it is no part of its mark
mark_more : (bytes more : List ℕ) → 3 ≤ length bytes → strip_bom (bytes ++ more) ≡ strip_bom bytes ++ more
unfolding strip_bom
mark_more [] more h = absurd (omega arith)
mark_more (a ∷ []) more h = absurd (omega arith)
mark_more (a ∷ b ∷ []) more h = absurd (omega arith)
mark_more (a ∷ b ∷ c ∷ rest) more h = elim (is_bom a b c) as (λ t. cond t (rest ++ more) (a ∷ b ∷ c ∷ (rest ++ more)) ≡ cond t rest (a ∷ b ∷ c ∷ rest) ++ more) [
  | true ↦ refl
  | false ↦ refl
]

-- ---- texts that are cut in two

-- a byte at a place stands first from there on
stands_first : (xs : List ℕ) (at x : ℕ) → slice_get xs at ≡ Some x → drop at xs ≡ x ∷ drop (suc at) xs
stands_first xs at x h = drop-cons xs at 0 (slice_get_within xs at x h) ∙ ap (λ y. y ∷ drop (suc at) xs) (get_or_from_slice_get xs at x 0 h)

-- a byte after others
get_dropped : (xs : List ℕ) (n i m : ℕ) (o : Option ℕ) → m ≡ n + i → slice_get (drop n xs) i ≡ o → slice_get xs m ≡ o
get_dropped xs zero i m o is h = ap (slice_get xs) (is ∙ none_more i) ∙ h
get_dropped [] (suc n) i m o is h = h
get_dropped (x ∷ xs) (suc n) i zero o is h = absurd (omega (arith, is))
get_dropped (x ∷ xs) (suc n) i (suc m) o is h = get_dropped xs n i m o (omega (arith, is)) h

pub cut_at : (bytes : List ℕ) (at e : ℕ) → (e ≡ 10) ⊎ (e ≡ 13) → slice_get bytes at ≡ Some e → IsOutside (state_after st.StartRecord (strip_bom (take at bytes))) → MayBeCut bytes at
cut_at bytes at e ends there out more rows after first rest =
    subst (λ (text : List ℕ). AreRowsOf text (rows ++ after)) (sym both)
    (subst (λ (text : List ℕ). AreRecords default_config st.StartRecord text (rows ++ after)) (sym (bom_joined e ends (take at bytes) (drop (suc at) bytes ++ more)))
    (cut_before e ends (strip_bom (take at bytes)) (drop (suc at) bytes ++ more) rows after out first
    (line_skipped e ends (drop (suc at) bytes ++ more) after (subst (λ (text : List ℕ). AreRowsOf (text ++ more) after) (stands_first bytes at e there) rest))))
  where
    both : bytes ++ more ≡ take at bytes ++ e ∷ (drop (suc at) bytes ++ more)
    both = ap (λ (xs : List ℕ). xs ++ more) (sym (take-append-drop at bytes) ∙ ap (λ (xs : List ℕ). take at bytes ++ xs) (stands_first bytes at e there)) ∙ append_assoc (take at bytes) (e ∷ drop (suc at) bytes) more

-- at an end that was found after the mark
pub cut_at_end : (bytes : List ℕ) (at : ℕ) → IsEnd (drop (mark_in bytes) bytes) at → MayBeCut bytes (mark_in bytes + at)
cut_at_end bytes at is =
    cut_at bytes (mark_in bytes + at) is.byte is.ends (get_dropped bytes (mark_in bytes) at (mark_in bytes + at) (Some is.byte) refl is.there) (subst (λ (xs : List ℕ). IsOutside (state_after st.StartRecord xs)) (sym (mark_front bytes at)) is.outside)

-- ---- what is left of a text

pub shortened : (bytes short : List ℕ) → 3 ≤ length bytes → IsCutText (drop (mark_in bytes) bytes) short → IsShortened bytes (10 ∷ short)
shortened bytes short long is more cut h =
    let whole = is more cut (line_skipped 10 (inl refl) (short ++ more) cut h) in
    (whole.0, subst (λ (text : List ℕ). AreRecords default_config st.StartRecord text whole.0) (ap (λ (xs : List ℕ). xs ++ more) (mark_after bytes) ∙ sym (mark_more bytes more long)) whole.1, whole.2)

-- what is said of an answer that is there
pub of_some : {X : Type 0} (P : X → Type 0) (o : Option X) (x : X) → o ≡ Some x → IfSome o P → P x
of_some {X = X} P o x is h = subst (λ (r : Option X). IfSome r P) is h
