-- The last joint of a field, as bytes are kept and left out.
use Rattle.std.proofs.Common.{◌≡◌, ◌⊎◌, ℕ, ◌+◌, ◌<◌, ◌==◌, ◌||◌, true, false, List, [], ◌∷◌, ◌++◌, length, take, drop, inl, inr, refl, sym, ap, subst, ◌∙◌, arith, append_assoc, length-append}
use Rattle.std.specs.List.{IsDistinct}
use Rattle.std.proofs.Math.Seq.{take-append_seam, take-append-add, drop-append-add}
use Rattle.std.proofs.lemmas.Bool.{true≢false, or_cases, or_left, or_right, or_from, false_from_ne_true}
use Rattle.std.proofs.lemmas.Cmp.{nat_list_eq_equiv}
use Rattle.std.proofs.lemmas.List.Folds.{list_any-append}
use Rattle.std.proofs.lemmas.Map.Keys.{IsDistinct-push}
use Rattle.csv.specs.Machine.{Feeds}
use Rattle.csv.specs.Reading.{default_config}
use Rattle.csv.specs.declared.parser.State.TheVariants as st
use Rattle.rset.specs.Names.{same_name}
use Rattle.rtrace_form.specs.Records.{Row}
use Rattle.rshort.specs.declared.joint.Joint.{Joint}
use Rattle.rshort.specs.Cut.{has_joint, pieces_of, is_among, Differ}
use Rattle.rshort.specs.Joints.{IsLastJoint, KnowsJoint}
use Rattle.rshort.specs.Steps.{state_of}
use Rattle.rshort.proofs.Gathered.{pieces_joined, one_piece}

-- ---- a joint that stays the last one

joint_more : (xs : List ℕ) (c : ℕ) → has_joint xs ≡ false → (c == 43) ≡ false → has_joint (xs ++ c ∷ []) ≡ false
joint_more xs c none plain = list_any-append (λ b. b == 43) xs (c ∷ []) ∙ or_from (has_joint xs) ((c == 43) || false) none (or_from (c == 43) false plain refl)

module _ (joint : Joint) (kept : List ℕ) (cut : Row) (left : List ℕ) where
  -- a byte more is kept, which is no part of the field
  pub joint_kept : (c : ℕ) → KnowsJoint joint kept cut left → KnowsJoint joint (kept ++ c ∷ []) cut left
  joint_kept c (inl none) = inl none
  joint_kept c (inr j) = inr (record {
    there = j.there;
    before = j.before;
    rest = j.rest ++ c ∷ [];
    kept_is = ap (λ (xs : List ℕ). xs ++ c ∷ []) j.kept_is ∙ append_assoc j.before (43 ∷ j.rest) (c ∷ []);
    kept_before = j.kept_before;
    front = j.front;
    piece = j.piece;
    left_is = j.left_is;
    left_before = j.left_before;
    one = j.one;
    fed = j.fed;
    differ = j.differ;
  })

  -- a byte more that is no joint
  pub joint_plain : (c : ℕ) → (c == 43) ≡ false → KnowsJoint joint kept cut left → KnowsJoint joint (kept ++ c ∷ []) cut (left ++ c ∷ [])
  joint_plain c plain (inl none) = inl (none.0, joint_more left c none.1 plain)
  joint_plain c plain (inr j) = inr (record {
    there = j.there;
    before = j.before;
    rest = j.rest ++ c ∷ [];
    kept_is = ap (λ (xs : List ℕ). xs ++ c ∷ []) j.kept_is ∙ append_assoc j.before (43 ∷ j.rest) (c ∷ []);
    kept_before = j.kept_before;
    front = j.front;
    piece = j.piece ++ c ∷ [];
    left_is = ap (λ (xs : List ℕ). xs ++ c ∷ []) j.left_is ∙ append_assoc j.front (43 ∷ j.piece) (c ∷ []);
    left_before = j.left_before;
    one = joint_more j.piece c j.one plain;
    fed = j.fed;
    differ = j.differ;
  })

-- ---- a quotation mark that is taken back

head_or : List ℕ → ℕ
head_or [] = 0
head_or (x ∷ xs) = x

tail_of : List ℕ → List ℕ
tail_of [] = []
tail_of (x ∷ xs) = xs

popped : (before rest kept : List ℕ) → kept ++ 34 ∷ [] ≡ before ++ 43 ∷ rest → (others : List ℕ) × (kept ≡ before ++ 43 ∷ others)
unfolding head_or tail_of
popped [] rest [] is = let e : 34 ≡ 43 = ap head_or is in absurd (omega (arith, e))
popped [] rest (k ∷ kept) is = (kept, ap (λ (n : ℕ). n ∷ kept) (ap head_or is))
popped (b ∷ before) rest [] is =
    let e : 0 ≡ length (before ++ 43 ∷ rest) = ap (λ (xs : List ℕ). length (tail_of xs)) is in
    let size = length-append before (43 ∷ rest) in
    absurd (omega (arith, e, size))
popped (b ∷ before) rest (k ∷ kept) is =
    let more = popped before rest kept (ap tail_of is) in
    (more.0, ap (λ (n : ℕ). n ∷ kept) (ap head_or is) ∙ ap (λ (xs : List ℕ). b ∷ xs) more.1)

pub joint_popped : (joint : Joint) (kept : List ℕ) (cut : Row) (left : List ℕ) → KnowsJoint joint (kept ++ 34 ∷ []) cut left → KnowsJoint joint kept cut left
joint_popped joint kept cut left (inl none) = inl none
joint_popped joint kept cut left (inr j) =
    let less = popped j.before j.rest kept j.kept_is in
    inr (record {
      there = j.there;
      before = j.before;
      rest = less.0;
      kept_is = less.1;
      kept_before = j.kept_before;
      front = j.front;
      piece = j.piece;
      left_is = j.left_is;
      left_before = j.left_before;
      one = j.one;
      fed = j.fed;
      differ = j.differ;
    })

-- ---- what is known by the lengths

pub last_joint : (joint : Joint) (kept : List ℕ) (cut : Row) (left : List ℕ) → 0 < joint.different → KnowsJoint joint kept cut left → IsLastJoint joint kept cut left
last_joint joint kept cut left some (inl none) = let e = none.0 in absurd (omega (arith, e, some))
last_joint joint kept cut left some (inr j) = j

module _ (joint : Joint) (kept : List ℕ) (cut : Row) (left : List ℕ) (j : IsLastJoint joint kept cut left) where
  pub within_field : joint.field < length left
  within_field =
      let size = length-append j.front (43 ∷ j.piece) in
      let all : length left ≡ length (j.front ++ 43 ∷ j.piece) = ap length j.left_is in
      let at = j.left_before in
      omega (arith, size, all, at)

  pub within_kept : joint.kept < length kept
  within_kept =
      let size = length-append j.before (43 ∷ j.rest) in
      let all : length kept ≡ length (j.before ++ 43 ∷ j.rest) = ap length j.kept_is in
      let at = j.kept_before in
      omega (arith, size, all, at)

  pub front_is : take joint.field left ≡ j.front
  front_is = (λ i. take (sym j.left_before i) (j.left_is i)) ∙ take-append_seam j.front (43 ∷ j.piece)

  pub piece_is : drop (joint.field + 1) left ≡ j.piece
  piece_is = (λ i. drop (sym j.left_before i + 1) (j.left_is i)) ∙ drop-append-add j.front (43 ∷ j.piece) 1

  pub front_joined : take (joint.field + 1) left ≡ j.front ++ 43 ∷ []
  front_joined = (λ i. take (sym j.left_before i + 1) (j.left_is i)) ∙ take-append-add j.front (43 ∷ j.piece) 1

  pub kept_joined : take (joint.kept + 1) kept ≡ j.before ++ 43 ∷ []
  kept_joined = (λ i. take (sym j.kept_before i + 1) (j.kept_is i)) ∙ take-append-add j.before (43 ∷ j.rest) 1

-- ---- how many pieces differ

pub one_differs : (left : List ℕ) → has_joint left ≡ false → Differ 1 (pieces_of left)
unfolding IsDistinct
one_differs left none = record {
  some = left ∷ [];
  differ = (tt, tt);
  among = λ piece h. subst (λ (ps : List (List ℕ)). is_among ps piece ≡ true) (sym (one_piece left none)) h;
  enough = omega arith;
}

module _ (many : ℕ) (front piece : List ℕ) (one : has_joint piece ≡ false) (d : Differ many (pieces_of front)) where
  all_pieces : pieces_of (front ++ 43 ∷ piece) ≡ pieces_of front ++ piece ∷ []
  all_pieces = pieces_joined front piece ∙ ap (λ (ps : List (List ℕ)). pieces_of front ++ ps) (one_piece piece one)

  in_front : (q : List ℕ) → is_among (pieces_of front) q ≡ true → is_among (pieces_of (front ++ 43 ∷ piece)) q ≡ true
  in_front q h =
      ap (λ (ps : List (List ℕ)). is_among ps q) all_pieces ∙ list_any-append (same_name q) (pieces_of front) (piece ∷ []) ∙ or_left (is_among (pieces_of front) q) (is_among (piece ∷ []) q) h

  pub still_differ : Differ many (pieces_of (front ++ 43 ∷ piece))
  still_differ = record { some = d.some; differ = d.differ; among = λ q h. in_front q (d.among q h); enough = d.enough }

  pub one_more_differs : is_among (pieces_of front) piece ≡ false → Differ (many + 1) (pieces_of (front ++ 43 ∷ piece))
  one_more_differs new = record {
    some = d.some ++ piece ∷ [];
    differ = IsDistinct-push nat_list_eq_equiv d.some piece d.differ (false_from_ne_true (is_among d.some piece) (λ h. true≢false (sym (d.among piece h) ∙ new)));
    among = λ q h. by q (or_cases (is_among d.some q) (is_among (piece ∷ []) q) (sym (list_any-append (same_name q) d.some (piece ∷ [])) ∙ h));
    enough = let size = length-append d.some (piece ∷ []) in let e = d.enough in omega (arith, size, e);
  }
    where
      by : (q : List ℕ) → (is_among d.some q ≡ true) ⊎ (is_among (piece ∷ []) q ≡ true) → is_among (pieces_of (front ++ 43 ∷ piece)) q ≡ true
      by q (inl h) = in_front q (d.among q h)
      by q (inr h) =
          ap (λ (ps : List (List ℕ)). is_among ps q) all_pieces ∙ list_any-append (same_name q) (pieces_of front) (piece ∷ []) ∙ or_right (is_among (pieces_of front) q) (is_among (piece ∷ []) q) h

-- ---- a joint more

pub next_joint : (later : Joint) (bytes : List ℕ) (cut : Row) (left : List ℕ) → Feeds default_config st.StartRecord [] [] bytes (state_of later.stand) cut left false → length bytes ≡ later.kept → length left ≡ later.field → 0 < later.different
    → Differ later.different (pieces_of left) → KnowsJoint later (bytes ++ 43 ∷ []) cut (left ++ 43 ∷ [])
next_joint later bytes cut left fed kept field some differ = inr (record {
  there = some;
  before = bytes;
  rest = [];
  kept_is = refl;
  kept_before = kept;
  front = left;
  piece = [];
  left_is = refl;
  left_before = field;
  one = refl;
  fed = fed;
  differ = differ;
})

pub no_joint_yet : (joint : Joint) (kept : List ℕ) (cut : Row) → joint.different ≡ 0 → KnowsJoint joint kept cut []
no_joint_yet joint kept cut none = inl (none, refl)

-- how many pieces differ, by the last joint
module _ (joint : Joint) (kept : List ℕ) (cut : Row) (left : List ℕ) where
  pub differ_first : joint.different ≡ 0 → KnowsJoint joint kept cut left → Differ 1 (pieces_of left)
  differ_first none (inl first) = one_differs left first.1
  differ_first none (inr j) = let some = j.there in absurd (omega (arith, none, some))

  pub differ_still : 0 < joint.different → KnowsJoint joint kept cut left → Differ joint.different (pieces_of left)
  differ_still some k =
      let j = last_joint joint kept cut left some k in
      subst (λ (xs : List ℕ). Differ joint.different (pieces_of xs)) (sym j.left_is) (still_differ joint.different j.front j.piece j.one j.differ)

  pub differ_more : 0 < joint.different → is_among (pieces_of (take joint.field left)) (drop (joint.field + 1) left) ≡ false → KnowsJoint joint kept cut left → Differ (joint.different + 1) (pieces_of left)
  differ_more some new k =
      let j = last_joint joint kept cut left some k in
      let fresh : is_among (pieces_of j.front) j.piece ≡ false = (λ i. is_among (pieces_of (sym (front_is joint kept cut left j) i)) (sym (piece_is joint kept cut left j) i)) ∙ new in
      subst (λ (xs : List ℕ). Differ (joint.different + 1) (pieces_of xs)) (sym j.left_is) (one_more_differs joint.different j.front j.piece j.one j.differ fresh)
