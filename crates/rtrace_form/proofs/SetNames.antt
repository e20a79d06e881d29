-- Gathering the resources that the pieces of a field name, one after another.
use Rattle.std.proofs.Common.{◌≡◌, ℕ, ◌+◌, ◌==◌, ◌<◌, ◌≤◌, Bool, true, false, cond, codes, List, [], ◌∷◌, length, drop, get_or, Some, None, refl, sym, ap, ◌∙◌}
use Rattle.std.specs.Prelude.{option_and_then}
use Rattle.std.specs.List.{slice_split, list_any, onto_first}
use Rattle.std.specs.Str.{bytes_eq}
use Rattle.std.specs.FinSet.{empty, insert}
use Rattle.std.proofs.lemmas.Bool.{or_parts}
use Rattle.std.proofs.lemmas.List.{at_drop_more, at_drop_all}
use Rattle.std.proofs.lemmas.List.Splits.{slice_split-cons_no}
use Rattle.rset.specs.Sets.{Set, all_below}
use Rattle.rset.specs.Names.{number_in}
use Rattle.rset.proofs.SetLemmas.{all_below_empty, all_below_insert}
use Rattle.rtrace_form.specs.SetFields.{gather, set_told}

-- where nothing is cut, there is one piece
one_piece : (p : ℕ → Bool) (xs : List ℕ) → list_any p xs ≡ false → slice_split p xs ≡ xs ∷ []
one_piece p [] h = refl
one_piece p (x ∷ xs) h =
    let parts = or_parts (p x) (list_any p xs) h in
    slice_split-cons_no p x xs parts.0 ∙ ap (onto_first x) (one_piece p xs parts.1)

-- the pieces before i have named the members of s
pub record IsGathered (names pieces : List (List ℕ)) (i : ℕ) (s : Set) : Type 0 where
  pub rest : gather names s (drop i pieces) ≡ gather names empty pieces
  pub below : all_below (length names) s ≡ true

pub gathered-none : (names pieces : List (List ℕ)) → IsGathered names pieces 0 empty
gathered-none names pieces = record { rest = refl; below = all_below_empty (length names) }

module _ {names pieces : List (List ℕ)} {i : ℕ} {s : Set} (h : IsGathered names pieces i s) where
  next_piece : (piece : List ℕ) → i < length pieces → piece ≡ get_or pieces i piece
      → gather names empty pieces ≡ option_and_then (λ n. gather names (insert s n) (drop (i + 1) pieces)) (number_in names piece)
  unfolding gather
  next_piece piece there is =
      sym h.rest ∙ at_drop_more (gather names s) pieces i piece there
      ∙ ap (λ p. option_and_then (λ n. gather names (insert s n) (drop (i + 1) pieces)) (number_in names p)) (sym is)

  pub gathered-more : (piece : List ℕ) (n : ℕ) → i < length pieces → piece ≡ get_or pieces i piece → number_in names piece ≡ Some n → n < length names
      → IsGathered names pieces (i + 1) (insert s n)
  gathered-more piece n there is named below = record {
    rest = sym (next_piece piece there is ∙ ap (option_and_then (λ m. gather names (insert s m) (drop (i + 1) pieces))) named);
    below = all_below_insert (length names) s n h.below below;
  }

  pub gathered-unknown : (piece : List ℕ) → i < length pieces → piece ≡ get_or pieces i piece → number_in names piece ≡ None → gather names empty pieces ≡ None
  gathered-unknown piece there is unknown = next_piece piece there is ∙ ap (option_and_then (λ m. gather names (insert s m) (drop (i + 1) pieces))) unknown

  pub gathered-all : length pieces ≤ i → gather names empty pieces ≡ Some s
  unfolding gather
  gathered-all behind = sym h.rest ∙ at_drop_all (gather names s) pieces i behind

-- the field `-`, and every other
pub set_told-nothing : (names : List (List ℕ)) (field dash : List ℕ) → dash ≡ codes "-" → bytes_eq field dash ≡ true → set_told names field ≡ Some empty
unfolding set_told
set_told-nothing names field dash is same = ap (λ b. cond b (Some empty) (gather names empty (slice_split (λ b. b == 43) field))) (ap (bytes_eq field) (sym is) ∙ same)

pub set_told-pieces : (names : List (List ℕ)) (field dash : List ℕ) → dash ≡ codes "-" → bytes_eq field dash ≡ false → set_told names field ≡ gather names empty (slice_split (λ b. b == 43) field)
unfolding set_told
set_told-pieces names field dash is other = ap (λ b. cond b (Some empty) (gather names empty (slice_split (λ b. b == 43) field))) (ap (bytes_eq field) (sym is) ∙ other)

-- a field without `+` has one piece, which is the whole of it
pub set_told-one : (names : List (List ℕ)) (field dash : List ℕ) → dash ≡ codes "-" → bytes_eq field dash ≡ false → list_any (λ b. b == 43) field ≡ false
    → set_told names field ≡ option_and_then (λ n. Some (insert empty n)) (number_in names field)
unfolding gather
set_told-one names field dash is other one =
    set_told-pieces names field dash is other
    ∙ ap (gather names empty) (one_piece (λ b. b == 43) field one)
