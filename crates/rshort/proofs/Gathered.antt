-- The set that pieces name, without a piece that says nothing new.
use Rattle.std.proofs.Common.{◌≡◌, ◌⊎◌, ℕ, suc, ◌<◌, ◌≤◌, ◌==◌, Bool, true, false, List, [], ◌∷◌, ◌++◌, length, Option, Some, None, inl, inr, refl, sym, ap, ◌∙◌, arith}
use Rattle.std.specs.Prelude.{option_and_then}
use Rattle.std.specs.List.{onto_first}
use Rattle.std.specs.Cmp.{nat_eq_equiv}
use Rattle.std.specs.FinSet.{empty, insert, contains}
use Rattle.std.proofs.lemmas.Bool.{true≢false, or_cases, or_left, or_right, or_parts}
use Rattle.std.proofs.lemmas.Cmp.{nat_list_eq_equiv}
use Rattle.std.proofs.lemmas.List.Splits.{slice_split-cons_yes, slice_split-cons_no, length-slice_split}
use Rattle.std.proofs.lemmas.Map.Made.{length-le_from_is_member}
use Rattle.rset.specs.Names.{same_name, number_in, knows}
use Rattle.rset.specs.Sets.{Set}
use Rattle.rset.specs.declared.TheConstants.{RESOURCES}
use Rattle.rset.proofs.NameLemmas.{same_name-true, name_at_number, knows_name_at}
use Rattle.rset.proofs.SetLemmas.{contains_insert, insert_there}
use Rattle.rtrace_form.specs.SetFields.{gather}
use Rattle.rtrace_form.proofs.facts.Choices.{some_is, some_none}
use Rattle.rshort.specs.Cut.{has_joint, pieces_of, is_among, Differ}

-- ---- pieces

onto_joined : (c : ℕ) (ps qs : List (List ℕ)) → 0 < length ps → onto_first c (ps ++ qs) ≡ onto_first c ps ++ qs
onto_joined c [] qs some = absurd (omega (arith, some))
onto_joined c (p ∷ ps) qs some = refl

pub pieces_joined : (front rest : List ℕ) → pieces_of (front ++ 43 ∷ rest) ≡ pieces_of front ++ pieces_of rest
pieces_joined [] rest = slice_split-cons_yes (λ b. b == 43) 43 rest refl
pieces_joined (c ∷ front) rest = by (pieces_joined front rest) (c == 43) refl
  where
    by : pieces_of (front ++ 43 ∷ rest) ≡ pieces_of front ++ pieces_of rest → (b : Bool) → (c == 43) ≡ b → pieces_of (c ∷ (front ++ 43 ∷ rest)) ≡ pieces_of (c ∷ front) ++ pieces_of rest
    by later true is =
        slice_split-cons_yes (λ b. b == 43) c (front ++ 43 ∷ rest) is ∙ ap (λ (ps : List (List ℕ)). [] ∷ ps) later
        ∙ ap (λ (ps : List (List ℕ)). ps ++ pieces_of rest) (sym (slice_split-cons_yes (λ b. b == 43) c front is))
    by later false is =
        let size = length-slice_split (λ b. b == 43) front in
        slice_split-cons_no (λ b. b == 43) c (front ++ 43 ∷ rest) is ∙ ap (onto_first c) later
        ∙ onto_joined c (pieces_of front) (pieces_of rest) (omega (arith, size))
        ∙ ap (λ (ps : List (List ℕ)). ps ++ pieces_of rest) (sym (slice_split-cons_no (λ b. b == 43) c front is))

pub one_piece : (piece : List ℕ) → has_joint piece ≡ false → pieces_of piece ≡ piece ∷ []
one_piece [] one = refl
one_piece (c ∷ piece) one =
    let parts = or_parts (c == 43) (has_joint piece) one in
    slice_split-cons_no (λ b. b == 43) c piece parts.0 ∙ ap (onto_first c) (one_piece piece parts.1)

pub first_piece : (piece rest : List ℕ) → has_joint piece ≡ false → pieces_of (piece ++ 43 ∷ rest) ≡ piece ∷ pieces_of rest
first_piece piece rest one = pieces_joined piece rest ∙ ap (λ (ps : List (List ℕ)). ps ++ pieces_of rest) (one_piece piece one)

-- ---- what they name

module _ (names : List (List ℕ)) where
  gathered_on : (s : Set) (ps qs : List (List ℕ)) → gather names s (ps ++ qs) ≡ option_and_then (λ t. gather names t qs) (gather names s ps)
  unfolding gather
  gathered_on s [] qs = refl
  gathered_on s (p ∷ ps) qs = by (λ n. gathered_on (insert s n) ps qs) (number_in names p)
    where
      by : ((n : ℕ) → gather names (insert s n) (ps ++ qs) ≡ option_and_then (λ t. gather names t qs) (gather names (insert s n) ps)) → (o : Option ℕ) → option_and_then (λ n. gather names (insert s n) (ps ++ qs)) o ≡ option_and_then (λ t. gather names t qs) (option_and_then (λ n. gather names (insert s n) ps) o)
      by later None = refl
      by later (Some n) = later n

  -- where pieces name a set, each is a resource of it
  record Named (ps : List (List ℕ)) (s t : Set) : Type 0 where
    stays : (l : ℕ) → contains s l ≡ true → contains t l ≡ true
    each : (piece : List ℕ) → is_among ps piece ≡ true → (n : ℕ) × (number_in names piece ≡ Some n) × (contains t n ≡ true)

  all_named : (ps : List (List ℕ)) (s t : Set) → gather names s ps ≡ Some t → Named ps s t
  unfolding gather
  all_named [] s t is = record { stays = λ l h. ap (λ (u : Set). contains u l) (sym (some_is is)) ∙ h; each = λ piece h. absurd (true≢false (sym h)) }
  all_named (p ∷ ps) s t is = by (λ n. all_named ps (insert s n) t) (number_in names p) refl is
    where
      more : (n : ℕ) → number_in names p ≡ Some n → Named ps (insert s n) t → Named (p ∷ ps) s t
      more n number later = record {
        stays = λ l h. later.stays l (contains_insert s n l ∙ or_right (l == n) (contains s l) h);
        each = λ piece h. this piece (or_cases (same_name piece p) (is_among ps piece) h);
      }
        where
          this : (piece : List ℕ) → (same_name piece p ≡ true) ⊎ (is_among ps piece ≡ true) → (m : ℕ) × (number_in names piece ≡ Some m) × (contains t m ≡ true)
          this piece (inl same) = (n, ap (number_in names) (same_name-true piece p same) ∙ number, later.stays n (contains_insert s n n ∙ or_left (n == n) (contains s n) (nat_eq_equiv.refl n)))
          this piece (inr among) = later.each piece among

      by : ((n : ℕ) → gather names (insert s n) ps ≡ Some t → Named ps (insert s n) t) → (o : Option ℕ) → number_in names p ≡ o → option_and_then (λ n. gather names (insert s n) ps) o ≡ Some t → Named (p ∷ ps) s t
      by later None number h = absurd (some_none h)
      by later (Some n) number h = more n number (later n h)

  -- too many different pieces name no set
  none_named : length names ≤ RESOURCES → (ps : List (List ℕ)) (s t : Set) → Differ (suc RESOURCES) ps → gather names s ps ≡ Some t → ⊥
  unfolding knows
  none_named few ps s t many is =
      let most : suc RESOURCES ≤ length many.some = many.enough in
      let known = length-le_from_is_member nat_list_eq_equiv many.some names many.differ (λ piece among. let n = (all_named ps s t is).each piece (many.among piece among) in knows_name_at names piece n.0 (name_at_number names piece n.0 n.1)) in
      omega (arith, few, most, known)

  pub piece_gathered : length names ≤ RESOURCES → (ps qs : List (List ℕ)) (piece : List ℕ) → (is_among ps piece ≡ true) ⊎ Differ (suc RESOURCES) ps → gather names empty (ps ++ piece ∷ qs) ≡ gather names empty (ps ++ qs)
  unfolding gather
  piece_gathered few ps qs piece nothing = gathered_on empty ps (piece ∷ qs) ∙ by nothing (gather names empty ps) refl ∙ sym (gathered_on empty ps qs)
    where
      by : (is_among ps piece ≡ true) ⊎ Differ (suc RESOURCES) ps → (o : Option Set) → gather names empty ps ≡ o → option_and_then (λ t. gather names t (piece ∷ qs)) o ≡ option_and_then (λ t. gather names t qs) o
      by nothing None is = refl
      by (inl among) (Some t) is =
          let n = (all_named ps empty t is).each piece among in
          ap (option_and_then (λ m. gather names (insert t m) qs)) n.1 ∙ ap (λ (u : Set). gather names u qs) (insert_there t n.0 n.2)
      by (inr many) (Some t) is = absurd (none_named few ps empty t many is)
