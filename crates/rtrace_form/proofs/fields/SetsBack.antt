-- A set that is written is read again.
use Rattle.std.proofs.Common.{◌≡◌, ℕ, ◌<◌, ◌==◌, Bool, true, false, ◌&&◌, ◌||◌, cond, codes, List, [], ◌∷◌, ◌++◌, length, map, fold, Some, refl, sym, ap, ◌∙◌, arith, true≢false}
use Rattle.std.specs.Prelude.{option_and_then}
use Rattle.std.specs.List.{list_all, list_any, slice_split, join_with_byte, onto_first, AllByRecursion}
use Rattle.std.specs.Str.{bytes_eq}
use Rattle.std.specs.FinSet.{empty, insert}
use Rattle.std.proofs.lemmas.Bool.{and_parts, and_from}
use Rattle.std.proofs.lemmas.Bool.Decides.{nat_tests}
use Rattle.std.proofs.lemmas.List.{append-nil}
use Rattle.std.proofs.lemmas.List.Splits.{slice_split-cons_yes, slice_split-cons_no}
use Rattle.std.proofs.lemmas.Option.{slice_get-get_or}
use Rattle.rset.specs.Names.{is_name, is_name_byte, is_letter, is_table, all_differ, number_in}
use Rattle.rset.specs.Sets.{Set, rising, all_below}
use Rattle.rset.specs.declared.TheConstants.{RESOURCES}
use Rattle.rset.proofs.NameLemmas.{number_of_name_at, table_differs, table_length, table_name_at}
use Rattle.rset.proofs.SetLemmas.{all_below_at, all_below_from, rising_member, fold_rising}
use Rattle.rtrace_form.specs.SetFields.{gather, set_told, name_at, joined, set_text}

-- the number of a resource's name is its own
pub resource_back : (names : List (List ℕ)) (n : ℕ) → all_differ names ≡ true → n < length names → number_in names (name_at names n) ≡ Some n
resource_back names n differ there = number_of_name_at names (name_at names n) n differ (slice_get-get_or names n [] there)

-- ---- pieces

no_joint : (c : ℕ) → is_name_byte c ≡ true → (c == 43) ≡ false
no_joint c h = grind (arith, nat_tests)

no_dash : (c : ℕ) → is_letter c ≡ true → (c == 45) ≡ false
no_dash c h = grind (arith, nat_tests)

-- a name up to the next joint is one piece
piece_split : (name rest : List ℕ) → list_all is_name_byte name ≡ true → slice_split (λ b. b == 43) (name ++ 43 ∷ rest) ≡ name ∷ slice_split (λ b. b == 43) rest
piece_split [] rest h = slice_split-cons_yes (λ b. b == 43) 43 rest refl
piece_split (c ∷ name) rest h =
    let parts = and_parts (is_name_byte c) (list_all is_name_byte name) h in
    slice_split-cons_no (λ b. b == 43) c (name ++ 43 ∷ rest) (no_joint c parts.0) ∙ ap (onto_first c) (piece_split name rest parts.1)

-- and the last name is the last piece
last_split : (name : List ℕ) → list_all is_name_byte name ≡ true → slice_split (λ b. b == 43) name ≡ name ∷ []
last_split [] h = refl
last_split (c ∷ name) h =
    let parts = and_parts (is_name_byte c) (list_all is_name_byte name) h in
    slice_split-cons_no (λ b. b == 43) c name (no_joint c parts.0) ∙ ap (onto_first c) (last_split name parts.1)

or_left : (a b : Bool) → a ≡ true → (a || b) ≡ true
or_left a b h = ap (λ x. x || b) h

pub name_bytes : (name : List ℕ) → is_name name ≡ true → list_all is_name_byte name ≡ true
unfolding is_name
name_bytes [] h = absurd (true≢false (sym h))
name_bytes (c ∷ cs) h =
    let parts = and_parts _ (list_all is_name_byte cs) h in
    let letter = (and_parts (is_letter c) _ parts.0).0 in
    and_from (is_name_byte c) (list_all is_name_byte cs) (or_left _ _ (or_left _ _ letter)) parts.1

-- a text that begins with a name is not a dash
not_dash : (name rest : List ℕ) → is_name name ≡ true → bytes_eq (name ++ rest) (codes "-") ≡ false
unfolding is_name
not_dash [] rest h = absurd (true≢false (sym h))
not_dash (c ∷ cs) rest h =
    let letter = (and_parts (is_letter c) _ (and_parts _ (list_all is_name_byte cs) h).0).0 in
    ap (λ b. b && bytes_eq (cs ++ rest) []) (no_dash c letter)

no_dash_joined : (name : List ℕ) (names : List (List ℕ)) → is_name name ≡ true → bytes_eq (join_with_byte 43 (name ∷ names)) (codes "-") ≡ false
no_dash_joined name [] h = ap (λ x. bytes_eq x (codes "-")) (sym (append-nil name)) ∙ not_dash name [] h
no_dash_joined name (next ∷ names) h = not_dash name (43 ∷ join_with_byte 43 (next ∷ names)) h

pieces_back : (name : List ℕ) (names : List (List ℕ)) → AllByRecursion (λ x. list_all is_name_byte x ≡ true) (name ∷ names)
    → slice_split (λ b. b == 43) (join_with_byte 43 (name ∷ names)) ≡ name ∷ names
pieces_back name [] h = last_split name h.0
pieces_back name (next ∷ names) h = piece_split name (join_with_byte 43 (next ∷ names)) h.0 ∙ ap (λ xs. name ∷ xs) (pieces_back next names h.1)

-- ---- members

-- what holds of each number that is in a list holds of all of it
all_in : (P : ℕ → Type 0) (xs : List ℕ) → ((l : ℕ) → list_any (λ y. y == l) xs ≡ true → P l) → AllByRecursion P xs
all_in P [] h = tt
all_in P (x ∷ xs) h = (h x (ap (λ b. b || list_any (λ y. y == x) xs) (same x)), all_in P xs (λ l there. h l (or_right (x == l) _ there)))
  where
    same : (n : ℕ) → (n == n) ≡ true
    same n = grind (arith, nat_tests)

    or_right : (a b : Bool) → b ≡ true → (a || b) ≡ true
    or_right true b e = refl
    or_right false b e = e

module _ (names : List (List ℕ)) (table : is_table RESOURCES names ≡ true) where
  gathered : (xs : List ℕ) (s : Set) → AllByRecursion (λ l. l < length names) xs → gather names s (map (name_at names) xs) ≡ Some (fold insert s xs)
  unfolding gather
  gathered [] s h = refl
  gathered (x ∷ xs) s h =
      ap (option_and_then (λ n. gather names (insert s n) (map (name_at names) xs))) (resource_back names x (table_differs RESOURCES names table) h.0)
      ∙ gathered xs (insert s x) h.1

  pub is_name_at : (n : ℕ) → n < length names → is_name (name_at names n) ≡ true
  is_name_at n there = table_name_at RESOURCES names (name_at names n) n table (slice_get-get_or names n [] there)

  bytes_at : (xs : List ℕ) → AllByRecursion (λ l. l < length names) xs → AllByRecursion (λ x. list_all is_name_byte x ≡ true) (map (name_at names) xs)
  bytes_at [] h = tt
  bytes_at (x ∷ xs) h = (name_bytes (name_at names x) (is_name_at x h.0), bytes_at xs h.1)

  -- each member of a set has a name
  pub members_bytes : (s : Set) → all_below (length names) s ≡ true → AllByRecursion (λ x. list_all is_name_byte x ≡ true) (map (name_at names) (rising s))
  members_bytes s below = bytes_at (rising s) (all_in (λ l. l < length names) (rising s) (λ l there. all_below_at (length names) s below l (rising_member s l there)))

  told_back : (xs : List ℕ) → AllByRecursion (λ l. l < length names) xs → set_told names (joined (map (name_at names) xs)) ≡ Some (fold insert empty xs)
  unfolding set_told
  told_back [] h = refl
  told_back (x ∷ xs) h =
      let text = join_with_byte 43 (name_at names x ∷ map (name_at names) xs) in
      ap (λ b. cond b (Some empty) (gather names empty (slice_split (λ b. b == 43) text))) (no_dash_joined (name_at names x) (map (name_at names) xs) (is_name_at x h.0))
      ∙ ap (gather names empty) (pieces_back (name_at names x) (map (name_at names) xs) (bytes_at (x ∷ xs) h))
      ∙ gathered (x ∷ xs) empty h

  pub set_back : (s : Set) → all_below (length names) s ≡ true → set_told names (set_text names s) ≡ Some s
  unfolding set_text
  set_back s below =
      let few = table_length RESOURCES names table in
      let each = all_in (λ l. l < length names) (rising s) (λ l there. all_below_at (length names) s below l (rising_member s l there)) in
      let within : all_below RESOURCES s ≡ true = all_below_from RESOURCES s (λ l there. let low = all_below_at (length names) s below l there in omega arith) in
      told_back (rising s) each ∙ ap (λ t. Some t) (fold_rising s within)
