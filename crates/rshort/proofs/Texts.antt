-- Texts that are cut: whatever comes after them, their records are.
use Rattle.std.proofs.Common.{◌≡◌, ◌⊎◌, ℕ, zero, suc, ◌+◌, ◌<◌, ◌==◌, true, false, cond, List, [], ◌∷◌, ◌++◌, length, Option, Some, None, inl, inr, refl, sym, ap, subst, ◌∙◌, arith, length-append, append_assoc}
use Rattle.std.specs.Bool.{MatchBool}
use Rattle.std.proofs.lemmas.Bool.{true≢false}
use Rattle.csv.specs.Machine.{Read, next_record, ends_at_end, is_end, step, fields_after, field_after, Feeds}
use Rattle.csv.specs.Reading.{Reached, default_config}
use Rattle.csv.specs.declared.parser.Action.{Action}
use Rattle.csv.specs.declared.parser.Action.TheVariants as act
use Rattle.csv.specs.declared.parser.State.{State}
use Rattle.csv.specs.declared.parser.State.TheVariants as st
use Rattle.rtrace_form.specs.Records.{Row}
use Rattle.rtrace_form.proofs.facts.Choices.{some_is, some_none}
use Rattle.rshort.specs.Cut.{piece_after, LacksBytes, LacksPiece, IsCutTimes, IsCut, AreCut, IsCutRow, AreCutRows, piece_in, IsCutPart, IsCutText}

-- ---- fields and records

lacks_none : (n : ℕ) (field : List ℕ) → LacksBytes n field field
lacks_none n [] = refl
lacks_none n (c ∷ field) = inr (field, refl, lacks_none (piece_after n c) field)

pub are_themselves : (row : Row) → AreCut row row
are_themselves [] = refl
are_themselves (x ∷ row) = (x, row, refl, (0, refl), are_themselves row)

pub rows_themselves : (rows : List Row) → AreCutRows rows rows
rows_themselves [] = refl
rows_themselves (row ∷ rows) = (row, rows, refl, inl (are_themselves row), rows_themselves rows)

-- one byte more in both
bytes_more : (n c : ℕ) (field cut : List ℕ) → LacksBytes n field cut → LacksBytes n (field ++ c ∷ []) (cut ++ c ∷ [])
bytes_more n c [] cut is = inr ([], ap (λ (xs : List ℕ). xs ++ c ∷ []) is, refl)
bytes_more n c (b ∷ field) cut (inl left) = inl (left.0, left.1, bytes_more n c field cut left.2)
bytes_more n c (b ∷ field) cut (inr kept) = inr (kept.0 ++ c ∷ [], ap (λ (xs : List ℕ). xs ++ c ∷ []) kept.1, bytes_more (piece_after n b) c field kept.0 kept.2)

piece_more : (c : ℕ) (field cut : List ℕ) → LacksPiece field cut → LacksPiece (field ++ c ∷ []) (cut ++ c ∷ [])
piece_more c field cut is = record {
  front = is.front;
  piece = is.piece;
  rest = is.rest ++ c ∷ [];
  whole = ap (λ (xs : List ℕ). xs ++ c ∷ []) is.whole ∙ append_assoc is.front (43 ∷ (is.piece ++ 43 ∷ is.rest)) (c ∷ []) ∙ ap (λ (xs : List ℕ). is.front ++ 43 ∷ xs) (append_assoc is.piece (43 ∷ is.rest) (c ∷ []));
  left = ap (λ (xs : List ℕ). xs ++ c ∷ []) is.left ∙ append_assoc is.front (43 ∷ is.rest) (c ∷ []);
  two = is.two;
  one = is.one;
  nothing = is.nothing;
}

once_more : (c : ℕ) (field cut : List ℕ) → LacksBytes 0 field cut ⊎ LacksPiece field cut → LacksBytes 0 (field ++ c ∷ []) (cut ++ c ∷ []) ⊎ LacksPiece (field ++ c ∷ []) (cut ++ c ∷ [])
once_more c field cut (inl is) = inl (bytes_more 0 c field cut is)
once_more c field cut (inr is) = inr (piece_more c field cut is)

times_more : (n c : ℕ) (field cut : List ℕ) → IsCutTimes n field cut → IsCutTimes n (field ++ c ∷ []) (cut ++ c ∷ [])
times_more zero c field cut is = ap (λ (xs : List ℕ). xs ++ c ∷ []) is
times_more (suc n) c field cut is = (is.0 ++ c ∷ [], times_more n c field is.0 is.1, once_more c is.0 cut is.2)

cut_more : (c : ℕ) (field cut : List ℕ) → IsCut field cut → IsCut (field ++ c ∷ []) (cut ++ c ∷ [])
cut_more c field cut is = (is.0, times_more is.0 c field cut is.1)

-- one byte more that is left out
last_lacks : (n c : ℕ) (field : List ℕ) → 20 < piece_in n field → (c == 43) ≡ false → LacksBytes n (field ++ c ∷ []) field
last_lacks n c [] long plain = inl (long, plain, refl)
last_lacks n c (b ∷ field) long plain = inr (field, refl, last_lacks (piece_after n b) c field long plain)

cut_off : (c : ℕ) (field cut : List ℕ) → IsCut field cut → 20 < piece_in 0 cut → (c == 43) ≡ false → IsCut (field ++ c ∷ []) cut
cut_off c field cut is long plain = let more = cut_more c field cut is in (suc more.0, (cut ++ c ∷ [], more.1, inl (last_lacks 0 c cut long plain)))

pub part_off : (row cut : Row) (field left : List ℕ) (c : ℕ) → IsCutPart row field cut left → 20 < piece_in 0 left → (c == 43) ≡ false → IsCutPart row (field ++ c ∷ []) cut left
part_off row cut field left c (inl is) long plain = inl (is.0, cut_off c field left is.1 long plain)
part_off row cut field left c (inr many) long plain = inr many

-- a `+` after a piece that says nothing new, which is left out
pub part_lacks : (row cut : Row) (field left short : List ℕ) → IsCutPart row field cut left → LacksPiece (left ++ 43 ∷ []) short → IsCutPart row (field ++ 43 ∷ []) cut short
part_lacks row cut field left short (inl is) lacks = let more = cut_more 43 field left is.1 in inl (is.0, (suc more.0, (left ++ 43 ∷ [], more.1, inr lacks)))
part_lacks row cut field left short (inr many) lacks = inr many

-- one field more
are_more : (row cut : Row) (x y : List ℕ) → AreCut row cut → IsCut x y → AreCut (row ++ x ∷ []) (cut ++ y ∷ [])
are_more [] cut x y are is = (y, [], ap (λ (r : Row). r ++ y ∷ []) are, is, refl)
are_more (a ∷ row) cut x y are is = (are.0, are.1 ++ y ∷ [], ap (λ (r : Row). r ++ y ∷ []) are.2, are.3, are_more row are.1 x y are.4 is)

longer : (row : Row) (x : List ℕ) → length (row ++ x ∷ []) ≡ length row + 1
longer row x = length-append row (x ∷ [])

-- a record that ends
ended : (row cut : Row) (field left : List ℕ) → IsCutPart row field cut left → IsCutRow (row ++ field ∷ []) (cut ++ left ∷ [])
ended row cut field left (inl is) = inl (are_more row cut field left is.0 is.1)
ended row cut field left (inr many) =
    let a = longer row field in
    let b = longer cut left in
    let m = many.0 in
    let n = many.1 in
    inr (omega (arith, a, m), omega (arith, b, n))

-- a field that ends, in a record that does not
pub field_ended : (row cut : Row) (field left : List ℕ) → IsCutPart row field cut left → IsCutPart (row ++ field ∷ []) [] (cut ++ left ∷ []) []
field_ended row cut field left (inl is) = inl (are_more row cut field left is.0 is.1, (0, refl))
field_ended row cut field left (inr many) =
    let a = longer row field in
    let b = longer cut left in
    let m = many.0 in
    let n = many.1 in
    inr (omega (arith, a, m), omega (arith, b, n))

pub copied : (row cut : Row) (field left : List ℕ) (c : ℕ) → IsCutPart row field cut left → IsCutPart row (field ++ c ∷ []) cut (left ++ c ∷ [])
copied row cut field left c (inl is) = inl (is.0, cut_more c field left is.1)
copied row cut field left c (inr many) = inr many

-- ---- the next record

-- the next records of both are cut, and what is after them is the same
abbrev AreCutReads : Option Read → Option Read → Type 0
AreCutReads None None = Unit {0}
AreCutReads None (Some b) = ⊥
AreCutReads (Some a) None = ⊥
AreCutReads (Some a) (Some b) = IsCutRow a.0 b.0 × (a.1 ≡ b.1) × (a.2 ≡ b.2)

-- what is read after a place, of both
abbrev Later : List ℕ → Type 0
Later xs = (s : State) (row cut : Row) (field left : List ℕ) → IsCutPart row field cut left → AreCutReads (next_record default_config s row field xs) (next_record default_config s cut left xs)

next_by : (xs : List ℕ) → Later xs → (c : ℕ) (s : State) (a : Action) (row cut : Row) (field left : List ℕ) → IsCutPart row field cut left
    → AreCutReads (cond (is_end a) (Some (fields_after a row field, s, xs)) (next_record default_config s (fields_after a row field) (field_after a c field) xs))
    (cond (is_end a) (Some (fields_after a cut left, s, xs)) (next_record default_config s (fields_after a cut left) (field_after a c left) xs))
next_by xs later c s act.Skip row cut field left part = later s row cut field left part
next_by xs later c s act.Copy row cut field left part = later s row cut (field ++ c ∷ []) (left ++ c ∷ []) (copied row cut field left c part)
next_by xs later c s act.EndField row cut field left part = later s (row ++ field ∷ []) (cut ++ left ∷ []) [] [] (field_ended row cut field left part)
next_by xs later c s act.EndRecord row cut field left part = (ended row cut field left part, refl, refl)

next_cut : (xs : List ℕ) → Later xs
unfolding next_record
next_cut [] s row cut field left part =
    elim (ends_at_end s) as (λ b. AreCutReads (cond b (Some (row ++ field ∷ [], st.StartRecord, [])) None) (cond b (Some (cut ++ left ∷ [], st.StartRecord, [])) None)) [
      | true ↦ (ended row cut field left part, refl, refl)
      | false ↦ tt
    ]
next_cut (c ∷ xs) s row cut field left part = next_by xs (next_cut xs) c (step default_config s c).0 (step default_config s c).1 row cut field left part

-- what was fed leads on
fed_by : (x more : List ℕ) (c : ℕ) (s : State) (a : Action) (row : Row) (field : List ℕ) (s2 : State) (row2 : Row) (field2 : List ℕ)
    → (Feeds default_config s (fields_after a row field) (field_after a c field) x s2 row2 field2 false
    → next_record default_config s (fields_after a row field) (field_after a c field) (x ++ more) ≡ next_record default_config s2 row2 field2 more)
    → MatchBool (is_end a)
    ((x ≡ []) × (s2 ≡ s) × (row2 ≡ fields_after a row field) × (field2 ≡ field_after a c field) × (false ≡ true))
    (Feeds default_config s (fields_after a row field) (field_after a c field) x s2 row2 field2 false)
    → cond (is_end a) (Some (fields_after a row field, s, x ++ more)) (next_record default_config s (fields_after a row field) (field_after a c field) (x ++ more)) ≡ next_record default_config s2 row2 field2 more
fed_by x more c s act.Skip row field s2 row2 field2 later fed = later fed
fed_by x more c s act.Copy row field s2 row2 field2 later fed = later fed
fed_by x more c s act.EndField row field s2 row2 field2 later fed = later fed
fed_by x more c s act.EndRecord row field s2 row2 field2 later fed = absurd (true≢false (sym fed.4))

fed_on : (x more : List ℕ) (s : State) (row : Row) (field : List ℕ) (s2 : State) (row2 : Row) (field2 : List ℕ) → Feeds default_config s row field x s2 row2 field2 false
    → next_record default_config s row field (x ++ more) ≡ next_record default_config s2 row2 field2 more
unfolding next_record Feeds
fed_on [] more s row field s2 row2 field2 fed = λ i. next_record default_config (sym fed.0 i) (sym fed.1 i) (sym fed.2 i) more
fed_on (c ∷ x) more s row field s2 row2 field2 fed =
    fed_by x more c (step default_config s c).0 (step default_config s c).1 row field s2 row2 field2
    (fed_on x more (step default_config s c).0 (fields_after (step default_config s c).1 row field) (field_after (step default_config s c).1 c field) s2 row2 field2) fed

-- ---- all records

none_cut : (a b : Option Read) → AreCutReads a b → b ≡ None → a ≡ None
none_cut None b are none = refl
none_cut (Some a) None are none = absurd are
none_cut (Some a) (Some b) are none = absurd (some_none (sym none))

-- the record that is read of the whole, where one is read of what is left
record Whole (a : Option Read) (b : Read) : Type 0 where
  read : Read
  is : a ≡ Some read
  cut : IsCutRow read.0 b.0
  state : read.1 ≡ b.1
  rest : read.2 ≡ b.2

whole_of : (a b : Option Read) (q : Read) → AreCutReads a b → b ≡ Some q → Whole a q
whole_of None None q are is = absurd (some_none is)
whole_of None (Some b) q are is = absurd are
whole_of (Some a) None q are is = absurd are
whole_of (Some a) (Some b) q are is =
    let same = some_is is in
    record { read = a; is = refl; cut = subst (λ (r : Read). IsCutRow a.0 r.0) same are.0; state = are.1 ∙ ap (λ (r : Read). r.1) same; rest = are.2 ∙ ap (λ (r : Read). r.2) same }

module _ (bytes short : List ℕ) (s : State) (row cut : Row) (field left : List ℕ) (fed : Feeds default_config st.StartRecord [] [] bytes s row field false)
    (fed_short : Feeds default_config st.StartRecord [] [] short s cut left false) (part : IsCutPart row field cut left) where
  both : (more : List ℕ) → AreCutReads (next_record default_config st.StartRecord [] [] (bytes ++ more)) (next_record default_config st.StartRecord [] [] (short ++ more))
  both more =
      subst (λ (o : Option Read). AreCutReads (next_record default_config st.StartRecord [] [] (bytes ++ more)) o) (sym (fed_on short more st.StartRecord [] [] s cut left fed_short))
      (subst (λ (o : Option Read). AreCutReads o (next_record default_config s cut left more)) (sym (fed_on bytes more st.StartRecord [] [] s row field fed)) (next_cut more s row cut field left part))

  pub text_cut : IsCutText bytes short
  unfolding Reached
  text_cut more [] are =
      let none = none_cut _ _ (both more) ((λ i. next_record default_config (are.2.0 i) [] [] (are.2.1 i)) ∙ are.3) in
      ([], (st.StartRecord, bytes ++ more, (refl, refl), none), refl)
  text_cut more (r ∷ rs) are =
      let w = whole_of _ _ are.2.0 (both more) are.2.1 in (
        w.read.0 ∷ rs,
        (are.0, are.1, (w.read, w.is, refl, subst (λ (t : State × List ℕ). Reached default_config t.0 t.1 rs are.0 are.1) (λ i. (sym w.state i, sym w.rest i)) are.2.3), are.3),
        (r, rs, refl, subst (IsCutRow w.read.0) (sym are.2.2) w.cut, rows_themselves rs),
      )
