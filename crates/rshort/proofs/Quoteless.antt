-- Where no quotation mark stands, each end of a line is outside quotation marks.
use Rattle.std.proofs.Common.{◌≡◌, ◌<◌, ℕ, zero, suc, ◌==◌, Bool, true, false, ◌||◌, cond, List, [], ◌∷◌, length, take, Option, Some, None, inl, refl, sym, subst}
use Rattle.std.proofs.lemmas.Bool.{true≢false}
use Rattle.std.specs.Prelude.{IfSome, slice_get}
use Rattle.std.specs.List.{AllByRecursion, list_any}
use Rattle.csv.specs.Machine.{step, start_record, start_field, in_field}
use Rattle.csv.specs.Reading.{default_config, strip_bom, is_bom}
use Rattle.csv.specs.declared.parser.Action.{Action}
use Rattle.csv.specs.declared.parser.Action.TheVariants as act
use Rattle.csv.specs.declared.parser.State.{State}
use Rattle.csv.specs.declared.parser.State.TheVariants as st
use Rattle.rshort.specs.Closed.{state_after, IsOutside}
use Rattle.rshort.specs.Cut.{MayBeCut}
use Rattle.rshort.proofs.Marks.{cut_at}

-- no byte is a quotation mark
abbrev HasNoQuote : List ℕ → Type 0
HasNoQuote bytes = AllByRecursion (λ b. (b == 34) ≡ false) bytes

none_any : (xs : List ℕ) → list_any (λ y. y == 34) xs ≡ false → HasNoQuote xs
none_any [] h = tt
none_any (x ∷ xs) h = elim (x == 34) as (λ b. (b || list_any (λ y. y == 34) xs) ≡ false → (b ≡ false) × HasNoQuote xs) [
  | true ↦ λ h. absurd (true≢false h)
  | false ↦ λ h. (refl, none_any xs h)
] h

none_before : (n : ℕ) (xs : List ℕ) → HasNoQuote xs → HasNoQuote (take n xs)
none_before zero xs h = tt
none_before (suc n) [] h = tt
none_before (suc n) (x ∷ xs) h = (h.0, none_before n xs h.1)

none_after_mark : (xs : List ℕ) → HasNoQuote xs → HasNoQuote (strip_bom xs)
unfolding strip_bom
none_after_mark [] h = h
none_after_mark (a ∷ []) h = h
none_after_mark (a ∷ b ∷ []) h = h
none_after_mark (a ∷ b ∷ c ∷ xs) h = elim (is_bom a b c) as (λ t. HasNoQuote (cond t xs (a ∷ b ∷ c ∷ xs))) [
  | true ↦ h.1.1.1
  | false ↦ h
]

-- where no quotation mark was
abbrev IsPlain : State → Type 0
IsPlain st.StartRecord = Unit {0}
IsPlain st.AfterCr = Unit {0}
IsPlain st.StartField = Unit {0}
IsPlain st.InField = Unit {0}
IsPlain _ = ⊥

abbrev LeadsPlain : State × Action → Type 0
LeadsPlain q = IsPlain q.0

in_plain : (c : ℕ) → LeadsPlain (in_field default_config c)
in_plain c =
    elim (c == 44) as (λ t. LeadsPlain (cond t (st.StartField, act.EndField) (cond ((c == 13) || (c == 10)) (cond (c == 13) st.AfterCr st.StartRecord, act.EndRecord) (st.InField, act.Copy)))) [
      | true ↦ tt
      | false ↦ elim (c == 13) as (λ t. LeadsPlain (cond (t || (c == 10)) (cond t st.AfterCr st.StartRecord, act.EndRecord) (st.InField, act.Copy))) [
        | true ↦ tt
        | false ↦ elim (c == 10) as (λ t. LeadsPlain (cond t (st.StartRecord, act.EndRecord) (st.InField, act.Copy))) [
          | true ↦ tt
          | false ↦ tt
        ]
      ]
    ]

start_plain : (c : ℕ) → (c == 34) ≡ false → LeadsPlain (start_field default_config c)
start_plain c other = subst (λ (t : Bool). LeadsPlain (cond t (st.InQuoted, act.Skip) (in_field default_config c))) (sym other) (in_plain c)

record_plain : (c : ℕ) → (c == 34) ≡ false → LeadsPlain (start_record default_config c)
record_plain c other = elim ((c == 13) || (c == 10)) as (λ t. LeadsPlain (cond t (st.StartRecord, act.Skip) (start_field default_config c))) [
  | true ↦ tt
  | false ↦ start_plain c other
]

step_plain : (s : State) (c : ℕ) → IsPlain s → (c == 34) ≡ false → LeadsPlain (step default_config s c)
step_plain st.StartRecord c at other = record_plain c other
step_plain st.AfterCr c at other = elim (c == 10) as (λ t. LeadsPlain (cond t (st.StartRecord, act.Skip) (start_record default_config c))) [
  | true ↦ tt
  | false ↦ record_plain c other
]
step_plain st.StartField c at other = start_plain c other
step_plain st.InField c at other = in_plain c
step_plain st.InQuoted c at other = absurd at
step_plain st.InEscape c at other = absurd at
step_plain st.AfterQuote c at other = absurd at
step_plain st.InComment c at other = absurd at

plain_outside : (s : State) → IsPlain s → IsOutside s
plain_outside st.StartRecord at = tt
plain_outside st.AfterCr at = tt
plain_outside st.StartField at = tt
plain_outside st.InField at = tt
plain_outside st.InQuoted at = absurd at
plain_outside st.InEscape at = absurd at
plain_outside st.AfterQuote at = absurd at
plain_outside st.InComment at = absurd at

outside : (xs : List ℕ) (s : State) → IsPlain s → HasNoQuote xs → IsOutside (state_after s xs)
outside [] s at none = plain_outside s at
outside (c ∷ xs) s at none = outside xs (step default_config s c).0 (step_plain s c at none.0) none.1

pub cut_at_line : (bytes : List ℕ) (r : Option ℕ) → list_any (λ y. y == 34) bytes ≡ false → IfSome r (λ at. (at < length bytes) × (slice_get bytes at ≡ Some 10)) → IfSome r (MayBeCut bytes)
cut_at_line bytes None none h = tt
cut_at_line bytes (Some at) none h =
    cut_at bytes at 10 (inl refl) h.1 (outside (strip_bom (take at bytes)) st.StartRecord tt (none_after_mark (take at bytes) (none_before at bytes (none_any bytes none))))
