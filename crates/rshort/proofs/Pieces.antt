-- Fields that are cut name what they named.
use Rattle.std.proofs.Common.{◌≡◌, ℕ, zero, suc, ◌+◌, ◌^◌, ◌<◌, ◌≤◌, ◌==◌, ◌&&◌, Bool, true, false, cond, codes, List, [], ◌∷◌, ◌++◌, length, Option, Some, None, nat_lt, nat_le, ◌⊎◌, inl, inr, refl, sym, ap, subst, ◌∙◌, arith}
use Rattle.std.specs.Prelude.{option_and_then}
use Rattle.std.specs.List.{list_all, slice_split, onto_first, position_from}
use Rattle.std.specs.Str.{bytes_eq}
use Rattle.std.specs.FinSet.{empty, insert}
use Rattle.std.proofs.lemmas.Bool.{true≢false, and_parts, or_cases, or_right, leb-true, ltb-true, eqb-true, false_from_ne_true}
use Rattle.std.proofs.lemmas.List.Folds.{list_any-append}
use Rattle.std.proofs.lemmas.List.Splits.{slice_split-cons_yes, slice_split-cons_no}
use Rattle.std.proofs.lemmas.Slice.Eq.{bytes_eq-Decides}
use Rattle.rset.specs.Names.{is_name, same_name, number_in, is_letter, is_name_byte}
use Rattle.rset.specs.Sets.{Set}
use Rattle.rset.specs.declared.TheConstants.{LONGEST_NAME, RESOURCES}
use Rattle.rset.proofs.NameLemmas.{same_name-true}
use Rattle.rclaim.specs.declared.TheConstants.{LENGTH_LIMIT}
use Rattle.rtrace_form.specs.Numbers.{is_digit, read_on, is_number, number_told, length_told, cap_told, cap_within}
use Rattle.rtrace_form.specs.SetFields.{gather, set_told}
use Rattle.rshort.specs.Cut.{piece_after, has_joint, pieces_of, LacksBytes, LacksPiece, IsCutTimes, IsCut}
use Rattle.rshort.proofs.Gathered.{pieces_joined, first_piece, piece_gathered}

-- a piece is the same, or both are longer than any word, name or number; n bytes of it stand before
abbrev pub SameOrLong : ℕ → List ℕ → List ℕ → Type 0
SameOrLong n piece cut = (piece ≡ cut) ⊎ ((20 < n + length piece) × (20 < n + length cut))

few_after : (n c : ℕ) → piece_after n c ≤ n + 1
few_after n c = elim (c == 43) as (λ b. cond b 0 (n + 1) ≤ n + 1) [
  | true ↦ omega arith
  | false ↦ omega arith
]

kept_or_long : (n c : ℕ) (field cut rest : List ℕ) → cut ≡ c ∷ rest → SameOrLong (piece_after n c) field rest → SameOrLong n (c ∷ field) cut
kept_or_long n c field cut rest is (inl same) = inl (ap (λ (xs : List ℕ). c ∷ xs) same ∙ sym is)
kept_or_long n c field cut rest is (inr long) =
    let few = few_after n c in
    let many : length cut ≡ suc (length rest) = ap length is in
    let a = long.0 in
    let b = long.1 in
    inr (omega (arith, few, a), omega (arith, few, b, many))

pub same_or_long : (n : ℕ) (field cut : List ℕ) → LacksBytes n field cut → SameOrLong n field cut
same_or_long n [] cut is = inl (sym is)
same_or_long n (c ∷ field) cut (inl left) = let many = left.0 in inr (omega (arith, many), omega (arith, many))
same_or_long n (c ∷ field) cut (inr kept) = kept_or_long n c field cut kept.0 kept.1 (same_or_long (piece_after n c) field kept.0 kept.2)

-- ---- what is the same of both, where it is false of all that is bad

-- longer than any word, name or number, or with a `+`, which none of these has
abbrev pub IsBad : List ℕ → Type 0
IsBad field = (20 < length field) ⊎ (has_joint field ≡ true)

abbrev pub SameOrBad : List ℕ → List ℕ → Type 0
SameOrBad field cut = (field ≡ cut) ⊎ (IsBad field × IsBad cut)

bad_too : (field mid cut : List ℕ) → SameOrBad field mid → SameOrBad mid cut → SameOrBad field cut
bad_too field mid cut (inl a) (inl b) = inl (a ∙ b)
bad_too field mid cut (inl a) (inr b) = inr (subst IsBad (sym a) b.0, b.1)
bad_too field mid cut (inr a) (inl b) = inr (a.0, subst IsBad b a.1)
bad_too field mid cut (inr a) (inr b) = inr (a.0, b.1)

from_long : (field cut : List ℕ) → SameOrLong 0 field cut → SameOrBad field cut
from_long field cut (inl same) = inl same
from_long field cut (inr long) = let a : 20 < 0 + length field = long.0 in let b : 20 < 0 + length cut = long.1 in inr (inl (omega (arith, a)), inl (omega (arith, b)))

joint_in : (front rest : List ℕ) → has_joint (front ++ 43 ∷ rest) ≡ true
joint_in front rest = list_any-append (λ b. b == 43) front (43 ∷ rest) ∙ or_right (has_joint front) true refl

lacks_bad : (field cut : List ℕ) → LacksPiece field cut → SameOrBad field cut
lacks_bad field cut is =
    inr (inr (ap has_joint is.whole ∙ joint_in is.front (is.piece ++ 43 ∷ is.rest)), inr (ap has_joint is.left ∙ joint_in is.front is.rest))

once_bad : (field cut : List ℕ) → LacksBytes 0 field cut ⊎ LacksPiece field cut → SameOrBad field cut
once_bad field cut (inl is) = from_long field cut (same_or_long 0 field cut is)
once_bad field cut (inr is) = lacks_bad field cut is

times_bad : (n : ℕ) (field cut : List ℕ) → IsCutTimes n field cut → SameOrBad field cut
times_bad zero field cut is = inl is
times_bad (suc n) field cut is = bad_too field is.0 cut (times_bad n field is.0 is.1) (once_bad is.0 cut is.2)

pub same_or_bad : (field cut : List ℕ) → IsCut field cut → SameOrBad field cut
same_or_bad field cut is = times_bad is.0 field cut is.1

-- a test that nothing bad passes says the same of both
pub tested : {X : Type 0} (test : List ℕ → X) (x : X) → ((field : List ℕ) → IsBad field → test field ≡ x) → (field cut : List ℕ) → SameOrBad field cut → test field ≡ test cut
tested test x fails field cut (inl same) = ap test same
tested test x fails field cut (inr bad) = fails field bad.0 ∙ sym (fails cut bad.1)

no_word : (word field : List ℕ) → length word ≤ 20 → has_joint word ≡ false → IsBad field → bytes_eq field word ≡ false
no_word word field short plain (inl long) = false_from_ne_true (bytes_eq field word) (λ same. let e : length field ≡ length word = ap length ((bytes_eq-Decides field word).0 same) in absurd (omega (arith, e, short, long)))
no_word word field short plain (inr joint) = false_from_ne_true (bytes_eq field word) (λ same. true≢false (sym joint ∙ ap has_joint ((bytes_eq-Decides field word).0 same) ∙ plain))

pub same_word : (word field cut : List ℕ) → length word ≤ 20 → has_joint word ≡ false → SameOrBad field cut → bytes_eq field word ≡ bytes_eq cut word
same_word word field cut short plain = tested (λ (x : List ℕ). bytes_eq x word) false (λ x bad. no_word word x short plain bad) field cut

and_false : (a b : Bool) → b ≡ false → (a && b) ≡ false
and_false true b h = h
and_false false b h = refl

-- bytes with a `+` fail a test that it fails
not_all : (p : ℕ → Bool) → p 43 ≡ false → (xs : List ℕ) → has_joint xs ≡ true → list_all p xs ≡ false
not_all p fails [] h = absurd (true≢false (sym h))
not_all p fails (c ∷ xs) h = by (not_all p fails xs) (or_cases (c == 43) (has_joint xs) h)
  where
    by : (has_joint xs ≡ true → list_all p xs ≡ false) → ((c == 43) ≡ true) ⊎ (has_joint xs ≡ true) → list_all p (c ∷ xs) ≡ false
    by rest (inl is) = ap (λ (b : Bool). b && list_all p xs) (ap p (eqb-true c 43 is) ∙ fails)
    by rest (inr later) = and_false (p c) (list_all p xs) (rest later)

and_left : {a : Bool} → a ≡ false → (b : Bool) → (a && b) ≡ false
and_left {a} h b = ap (λ (x : Bool). x && b) h

no_number : (field : List ℕ) → IsBad field → is_number field ≡ false
no_number field (inl long) =
    let short : nat_le (length field) 20 ≡ false = false_from_ne_true (nat_le (length field) 20) (λ h. let few = leb-true (length field) 20 h in absurd (omega (arith, few, long))) in
    and_left (and_left (and_false (nat_lt 0 (length field)) (nat_le (length field) 20) short) (list_all is_digit field)) (nat_lt (read_on 0 field) (2 ^ 64))
no_number field (inr joint) =
    and_left (and_false (nat_lt 0 (length field) && nat_le (length field) 20) (list_all is_digit field) (not_all is_digit refl field joint)) (nat_lt (read_on 0 field) (2 ^ 64))

no_number_told : (field : List ℕ) → IsBad field → number_told field ≡ None
no_number_told field bad = ap (λ (b : Bool). cond b (Some (read_on 0 field)) None) (no_number field bad)

pub same_is_number : (field cut : List ℕ) → SameOrBad field cut → is_number field ≡ is_number cut
same_is_number = tested is_number false no_number

pub same_number : (field cut : List ℕ) → SameOrBad field cut → number_told field ≡ number_told cut
same_number = tested number_told None no_number_told

pub same_length : (field cut : List ℕ) → SameOrBad field cut → length_told field ≡ length_told cut
unfolding length_told
same_length field cut is = ap (option_and_then (λ n. cond (nat_le n LENGTH_LIMIT) (Some n) None)) (same_number field cut is)

pub same_cap : (field cut : List ℕ) → SameOrBad field cut → cap_told field ≡ cap_told cut
unfolding cap_told
same_cap field cut is = ap (option_and_then cap_within) (same_number field cut is)

-- ---- names

pub no_name : (field : List ℕ) → IsBad field → is_name field ≡ false
unfolding is_name
no_name field (inl long) = false_from_ne_true (is_name field) (λ h. let few = name_length field h in absurd (omega (arith, few, long)))
  where
    name_length : (name : List ℕ) → is_name name ≡ true → length name ≤ 16
    name_length [] h = absurd (true≢false (sym h))
    name_length (c ∷ cs) h =
        let few = ltb-true (length cs) LONGEST_NAME (and_parts (is_letter c) (nat_lt (length cs) LONGEST_NAME) (and_parts (is_letter c && nat_lt (length cs) LONGEST_NAME) (list_all is_name_byte cs) h).0).1 in
        omega (arith, few)
no_name [] (inr joint) = refl
no_name (c ∷ cs) (inr joint) = by (or_cases (c == 43) (has_joint cs) joint)
  where
    by : ((c == 43) ≡ true) ⊎ (has_joint cs ≡ true) → is_name (c ∷ cs) ≡ false
    by (inl is) = and_left (and_left (ap is_letter (eqb-true c 43 is)) (nat_lt (length cs) LONGEST_NAME)) (list_all is_name_byte cs)
    by (inr later) = and_false (is_letter c && nat_lt (length cs) LONGEST_NAME) (list_all is_name_byte cs) (not_all is_name_byte refl cs later)

module _ (names : List (List ℕ)) (all : list_all is_name names ≡ true) where
  no_number_in : (field : List ℕ) → IsBad field → number_in names field ≡ None
  unfolding number_in
  no_number_in field bad = from 0 names all
    where
      differs : (name : List ℕ) → is_name name ≡ true → same_name field name ≡ false
      differs name is = false_from_ne_true (same_name field name) (λ h. true≢false (sym is ∙ ap is_name (sym (same_name-true field name h)) ∙ no_name field bad))

      from : (i : ℕ) (xs : List (List ℕ)) → list_all is_name xs ≡ true → position_from (same_name field) i xs ≡ None
      from i [] each = refl
      from i (x ∷ xs) each =
          let parts = and_parts (is_name x) (list_all is_name xs) each in
          ap (λ (b : Bool). cond b (Some i) (position_from (same_name field) (i + 1) xs)) (differs x parts.0) ∙ from (i + 1) xs parts.1

  pub same_number_in : (field cut : List ℕ) → SameOrBad field cut → number_in names field ≡ number_in names cut
  same_number_in = tested (number_in names) None no_number_in

  -- ---- sets

  -- each piece is the same, or both are long
  abbrev Pieces : List (List ℕ) → List (List ℕ) → Type 0
  Pieces [] cut = cut ≡ []
  Pieces (piece ∷ pieces) cut = (first : List ℕ) × (rest : List (List ℕ)) × (cut ≡ first ∷ rest) × SameOrLong 0 piece first × Pieces pieces rest

  -- the pieces of two fields, of the first of which n bytes stand before
  record Split (n : ℕ) (pieces cut : List (List ℕ)) : Type 0 where
    first : List ℕ
    rest : List (List ℕ)
    is : pieces ≡ first ∷ rest
    cut_first : List ℕ
    cut_rest : List (List ℕ)
    cut_is : cut ≡ cut_first ∷ cut_rest
    one : SameOrLong n first cut_first
    others : Pieces rest cut_rest

  joint : ℕ → Bool
  joint b = b == 43

  split_kept : (n c : ℕ) (field rest : List ℕ) (b : Bool) → (c == 43) ≡ b → Split (cond b 0 (n + 1)) (slice_split (λ b. b == 43) field) (slice_split (λ b. b == 43) rest)
      → Split n (slice_split (λ b. b == 43) (c ∷ field)) (slice_split (λ b. b == 43) (c ∷ rest))
  split_kept n c field rest true is s = record {
    first = [];
    rest = s.first ∷ s.rest;
    is = slice_split-cons_yes (λ b. b == 43) c field is ∙ ap (λ (ps : List (List ℕ)). [] ∷ ps) s.is;
    cut_first = [];
    cut_rest = s.cut_first ∷ s.cut_rest;
    cut_is = slice_split-cons_yes (λ b. b == 43) c rest is ∙ ap (λ (ps : List (List ℕ)). [] ∷ ps) s.cut_is;
    one = inl refl;
    others = (s.cut_first, s.cut_rest, refl, s.one, s.others);
  }
  split_kept n c field rest false is s = record {
    first = c ∷ s.first;
    rest = s.rest;
    is = slice_split-cons_no (λ b. b == 43) c field is ∙ ap (onto_first c) s.is;
    cut_first = c ∷ s.cut_first;
    cut_rest = s.cut_rest;
    cut_is = slice_split-cons_no (λ b. b == 43) c rest is ∙ ap (onto_first c) s.cut_is;
    one = one_more s.one;
    others = s.others;
  }
    where
      one_more : SameOrLong (n + 1) s.first s.cut_first → SameOrLong n (c ∷ s.first) (c ∷ s.cut_first)
      one_more (inl same) = inl (ap (λ (xs : List ℕ). c ∷ xs) same)
      one_more (inr long) = let a = long.0 in let b = long.1 in inr (omega (arith, a), omega (arith, b))

  split_of : (n : ℕ) (field cut : List ℕ) → LacksBytes n field cut → Split n (slice_split (λ b. b == 43) field) (slice_split (λ b. b == 43) cut)
  split_of n [] cut is = record { first = []; rest = []; is = refl; cut_first = []; cut_rest = []; cut_is = ap (slice_split (λ b. b == 43)) is; one = inl refl; others = refl }
  split_of n (c ∷ field) cut (inl left) =
      let s = split_of n field cut left.2 in
      let many = left.0 in
      record {
        first = c ∷ s.first;
        rest = s.rest;
        is = slice_split-cons_no (λ b. b == 43) c field left.1 ∙ ap (onto_first c) s.is;
        cut_first = s.cut_first;
        cut_rest = s.cut_rest;
        cut_is = s.cut_is;
        one = inr (omega (arith, many), omega (arith, many));
        others = s.others;
      }
  split_of n (c ∷ field) cut (inr kept) =
      subst (λ (xs : List ℕ). Split n (slice_split (λ b. b == 43) (c ∷ field)) (slice_split (λ b. b == 43) xs)) (sym kept.1) (split_kept n c field kept.0 (c == 43) refl (split_of (piece_after n c) field kept.0 kept.2))

  then_same : {X Y : Type 0} (f g : X → Option Y) → ((x : X) → f x ≡ g x) → (o : Option X) → option_and_then f o ≡ option_and_then g o
  then_same f g same None = refl
  then_same f g same (Some x) = same x

  gathered : (pieces cut : List (List ℕ)) → Pieces pieces cut → (s : Set) → gather names s pieces ≡ gather names s cut
  unfolding gather
  gathered [] cut is s = ap (gather names s) (sym is)
  gathered (piece ∷ pieces) cut are s =
      then_same (λ n. gather names (insert s n) pieces) (λ n. gather names (insert s n) are.1) (λ n. gathered pieces are.1 are.4 (insert s n)) (number_in names piece)
      ∙ ap (option_and_then (λ n. gather names (insert s n) are.1)) (same_number_in piece are.0 (from_long piece are.0 are.3))
      ∙ ap (gather names s) (sym are.2)

  set_of_pieces : (field : List ℕ) → has_joint field ≡ true → set_told names field ≡ gather names empty (pieces_of field)
  unfolding set_told
  set_of_pieces field joint = ap (λ (b : Bool). cond b (Some empty) (gather names empty (pieces_of field))) (no_word (codes "-") field (omega arith) refl (inr joint))

  without_bytes : (field cut : List ℕ) → LacksBytes 0 field cut → set_told names field ≡ set_told names cut
  unfolding set_told
  without_bytes field cut is =
      let s = split_of 0 field cut is in
      (λ i. cond (same_word (codes "-") field cut (omega arith) refl (from_long field cut (same_or_long 0 field cut is)) i) (Some empty) (gather names empty (pieces_of field)))
      ∙ ap (cond (bytes_eq cut (codes "-")) (Some empty))
      (ap (gather names empty) s.is ∙ gathered (s.first ∷ s.rest) (s.cut_first ∷ s.cut_rest) (s.cut_first, s.cut_rest, refl, s.one, s.others) empty ∙ ap (gather names empty) (sym s.cut_is))

  module _ (few : length names ≤ RESOURCES) where
    without_piece : (field cut : List ℕ) → LacksPiece field cut → set_told names field ≡ set_told names cut
    without_piece field cut is =
        ap (set_told names) is.whole
        ∙ set_of_pieces (is.front ++ 43 ∷ (is.piece ++ 43 ∷ is.rest)) (joint_in is.front (is.piece ++ 43 ∷ is.rest))
        ∙ ap (gather names empty) (pieces_joined is.front (is.piece ++ 43 ∷ is.rest) ∙ ap (λ (ps : List (List ℕ)). pieces_of is.front ++ ps) (first_piece is.piece is.rest is.one))
        ∙ piece_gathered names few (pieces_of is.front) (pieces_of is.rest) is.piece is.nothing
        ∙ ap (gather names empty) (sym (pieces_joined is.front is.rest))
        ∙ sym (set_of_pieces (is.front ++ 43 ∷ is.rest) (joint_in is.front is.rest))
        ∙ ap (set_told names) (sym is.left)

    once : (field cut : List ℕ) → LacksBytes 0 field cut ⊎ LacksPiece field cut → set_told names field ≡ set_told names cut
    once field cut (inl is) = without_bytes field cut is
    once field cut (inr is) = without_piece field cut is

    times : (n : ℕ) (field cut : List ℕ) → IsCutTimes n field cut → set_told names field ≡ set_told names cut
    times zero field cut is = ap (set_told names) is
    times (suc n) field cut is = times n field is.0 is.1 ∙ once is.0 cut is.2

    pub same_set : (field cut : List ℕ) → IsCut field cut → set_told names field ≡ set_told names cut
    same_set field cut is = times is.0 field cut is.1
