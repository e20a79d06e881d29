-- What the layers above need to know of tables of names: numbers, names and a name that is added.
use Rattle.std.proofs.Common.{◌≡◌, ℕ, zero, suc, ◌+◌, ◌<◌, ◌≤◌, ◌&&◌, ◌||◌, not, Bool, true, false, cond, List, [], ◌∷◌, ◌++◌, length, take, get_or, Some, refl, sym, ap, ◌∙◌, arith, length-append}
use Rattle.std.specs.Prelude.{slice_get, is_some, nat_le}
use Rattle.std.specs.List.{list_any, list_all, position_from}
use Rattle.std.specs.Cmp.Lexicographic.{bytes_decides}
use Rattle.std.proofs.lemmas.Bool.{true≢false, and_parts, and_from, or_left, or_right, or_from, leb-true, le-leb, not-true, false_from_ne_true}
use Rattle.std.proofs.lemmas.List.Folds.{list_any-append, list_all-append}
use Rattle.rset.specs.Names.{is_name, same_name, number_in, knows, all_differ, is_table}

-- ---- the same name

pub same_name-true : (x y : List ℕ) → same_name x y ≡ true → x ≡ y
same_name-true x y = (bytes_decides x y).0

pub same_name-itself : (x : List ℕ) → same_name x x ≡ true
same_name-itself x = (bytes_decides x x).1 refl

-- names differ where the test says so
pub same_name-false : (x y : List ℕ) → same_name x y ≡ false → x ≡ y → ⊥
same_name-false x y differ same = true≢false (sym ((bytes_decides x y).1 same) ∙ differ)

pub same_name-differs : (x y : List ℕ) → (x ≡ y → ⊥) → same_name x y ≡ false
same_name-differs x y differ = false_from_ne_true (same_name x y) (λ h. differ (same_name-true x y h))

pub same_name-symmetric : (x y : List ℕ) → same_name x y ≡ true → same_name y x ≡ true
same_name-symmetric x y h = (bytes_decides y x).1 (sym (same_name-true x y h))

-- ---- the first element that passes

module _ {X : Type 0} (test : X → Bool) where
  -- the element at the place that was found passes
  place_of : (i n : ℕ) (xs : List X) → position_from test i xs ≡ Some n → (k : ℕ) × (n ≡ i + k) × ((x : X) × (slice_get xs k ≡ Some x) × (test x ≡ true))
  place_of i n [] h = absurd (true≢false (sym (ap is_some h)))
  place_of i n (x ∷ xs) h = split (place_of (i + 1) n xs) (test x) refl h
    where
      split : (position_from test (i + 1) xs ≡ Some n → (k : ℕ) × (n ≡ i + 1 + k) × ((y : X) × (slice_get xs k ≡ Some y) × (test y ≡ true))) → (b : Bool) → test x ≡ b → cond b (Some i) (position_from test (i + 1) xs) ≡ Some n → (k : ℕ) × (n ≡ i + k) × ((y : X) × (slice_get (x ∷ xs) k ≡ Some y) × (test y ≡ true))
      split later true is same = let e : i ≡ n = cc in (0, omega arith, (x, refl, is))
      split later false is same = let found = later same in (suc found.0, omega (arith, found.1), found.2)

  passes_there : (k : ℕ) (x : X) → test x ≡ true → (xs : List X) → slice_get xs k ≡ Some x → list_any test xs ≡ true
  passes_there k x pass [] there = absurd (true≢false (sym (ap is_some there)))
  passes_there zero x pass (y ∷ ys) there = let e : y ≡ x = cc in or_left (test y) _ (ap test e ∙ pass)
  passes_there (suc k) x pass (y ∷ ys) there = or_right (test y) _ (passes_there k x pass ys there)

passes_at : (test : List ℕ → Bool) (k : ℕ) (xs : List (List ℕ)) → k < length xs → test (get_or xs k []) ≡ true → list_any test xs ≡ true
passes_at test k [] small pass = absurd (omega arith)
passes_at test zero (x ∷ xs) small pass = or_left (test x) _ pass
passes_at test (suc k) (x ∷ xs) small pass = or_right (test x) _ (passes_at test k xs (omega arith) pass)

within_length : {X : Type 0} (xs : List X) (k : ℕ) (x : X) → slice_get xs k ≡ Some x → k < length xs
within_length [] k x there = absurd (true≢false (sym (ap is_some there)))
within_length (y ∷ ys) zero x there = omega arith
within_length (y ∷ ys) (suc k) x there = let shorter = within_length ys k x there in omega arith

-- ---- the numbers of names

-- at the number of a name stands that name
pub name_at_number : (names : List (List ℕ)) (name : List ℕ) (n : ℕ) → number_in names name ≡ Some n → slice_get names n ≡ Some name
unfolding number_in
name_at_number names name n h =
    let found = place_of (same_name name) 0 n names h in
    let place : n ≡ found.0 = omega (arith, found.1) in
    ap (slice_get names) place ∙ found.2.1 ∙ ap (λ x. Some x) (sym (same_name-true name found.2.0 found.2.2))

pub number_below : (names : List (List ℕ)) (name : List ℕ) (n : ℕ) → number_in names name ≡ Some n → n < length names
number_below names name n h = within_length names n name (name_at_number names name n h)

pub knows_name_at : (names : List (List ℕ)) (name : List ℕ) (n : ℕ) → slice_get names n ≡ Some name → knows names name ≡ true
unfolding knows
knows_name_at names name n there = passes_there (same_name name) n name (same_name-itself name) names there

number_from_name : (i k : ℕ) (names : List (List ℕ)) (name : List ℕ) → all_differ names ≡ true → slice_get names k ≡ Some name → position_from (same_name name) i names ≡ Some (i + k)
unfolding all_differ
number_from_name i k [] name differ there = absurd (true≢false (sym (ap is_some there)))
number_from_name i zero (x ∷ xs) name differ there =
    let e : x ≡ name = cc in
    let same : i ≡ i + 0 = omega arith in
    ap (λ b. cond b (Some i) (position_from (same_name name) (i + 1) xs)) (ap (same_name name) e ∙ same_name-itself name) ∙ ap (λ n. Some n) same
number_from_name i (suc k) (x ∷ xs) name differ there =
    let parts = and_parts (not (knows xs x)) (all_differ xs) differ in
    let longer : i + 1 + k ≡ i + suc k = omega arith in
    ap (λ b. cond b (Some i) (position_from (same_name name) (i + 1) xs)) (other parts.0)
    ∙ number_from_name (i + 1) k xs name parts.1 there ∙ ap (λ n. Some n) longer
  where
    other : not (knows xs x) ≡ true → same_name name x ≡ false
    other unknown = false_from_ne_true (same_name name x) (λ same.
        true≢false (sym (knows_name_at xs x k (there ∙ ap (λ y. Some y) (same_name-true name x same))) ∙ not-true (knows xs x) unknown))

-- in a table each name has the number of its place
pub number_of_name_at : (names : List (List ℕ)) (name : List ℕ) (n : ℕ) → all_differ names ≡ true → slice_get names n ≡ Some name → number_in names name ≡ Some n
unfolding number_in
number_of_name_at names name n differ there =
    let same : 0 + n ≡ n = omega arith in number_from_name 0 n names name differ there ∙ ap (λ k. Some k) same

-- ---- a name behind the others

pub knows_push : (names : List (List ℕ)) (x name : List ℕ) → knows (names ++ x ∷ []) name ≡ (knows names name || same_name name x)
unfolding knows
knows_push names x name = list_any-append (same_name name) names (x ∷ []) ∙ ap (λ b. list_any (same_name name) names || b) (last (same_name name x))
  where
    last : (b : Bool) → (b || false) ≡ b
    last true = refl
    last false = refl

pub slice_get_push : {X : Type 0} (xs : List X) (x : X) → slice_get (xs ++ x ∷ []) (length xs) ≡ Some x
slice_get_push [] x = refl
slice_get_push (y ∷ ys) x = slice_get_push ys x

pub slice_get_push_other : {X : Type 0} (xs : List X) (x y : X) (k : ℕ) → slice_get xs k ≡ Some y → slice_get (xs ++ x ∷ []) k ≡ Some y
slice_get_push_other [] x y k there = absurd (true≢false (sym (ap is_some there)))
slice_get_push_other (z ∷ zs) x y zero there = there
slice_get_push_other (z ∷ zs) x y (suc k) there = slice_get_push_other zs x y k there

pub all_differ_push : (names : List (List ℕ)) (x : List ℕ) → all_differ names ≡ true → knows names x ≡ false → all_differ (names ++ x ∷ []) ≡ true
unfolding all_differ knows
all_differ_push [] x differ new = refl
all_differ_push (y ∷ ys) x differ new =
    let parts = and_parts (not (knows ys y)) (all_differ ys) differ in
    and_from _ _ (unknown parts.0) (all_differ_push ys x parts.1 (later (same_name x y) new))
  where
    later : (b : Bool) → (b || list_any (same_name x) ys) ≡ false → list_any (same_name x) ys ≡ false
    later true h = absurd (true≢false h)
    later false h = h

    first : (b : Bool) → (b || list_any (same_name x) ys) ≡ false → b ≡ false
    first true h = h
    first false h = refl

    unknown : not (list_any (same_name y) ys) ≡ true → not (list_any (same_name y) (ys ++ x ∷ [])) ≡ true
    unknown h =
        ap not (knows_push ys x y
        ∙ ap (λ b. b || same_name y x) (not-true (list_any (same_name y) ys) h)
        ∙ same_name-differs y x (λ e. same_name-false x y (first (same_name x y) new) (sym e)))

-- no name of a list that differ stands before its place
pub not_before : (names : List (List ℕ)) (k : ℕ) → all_differ names ≡ true → k < length names → knows (take k names) (get_or names k []) ≡ false
unfolding all_differ knows
not_before [] k differ small = absurd (omega arith)
not_before (x ∷ xs) zero differ small = refl
not_before (x ∷ xs) (suc k) differ small =
    let parts = and_parts (not (knows xs x)) (all_differ xs) differ in
    let less : k < length xs = omega arith in
    or_from (same_name (get_or xs k []) x) _ (other parts.0 less) (not_before xs k parts.1 less)
  where
    other : not (list_any (same_name x) xs) ≡ true → k < length xs → same_name (get_or xs k []) x ≡ false
    other unknown less = false_from_ne_true (same_name (get_or xs k []) x) (λ same.
        true≢false (sym (passes_at (same_name x) k xs less (same_name-symmetric (get_or xs k []) x same)) ∙ not-true (list_any (same_name x) xs) unknown))

-- ---- tables

pub table_of : (limit : ℕ) (names : List (List ℕ)) → list_all is_name names ≡ true → all_differ names ≡ true → length names ≤ limit → is_table limit names ≡ true
unfolding is_table
table_of limit names each differ few = and_from _ _ (and_from _ _ each differ) (le-leb (length names) limit few)

pub table_names : (limit : ℕ) (names : List (List ℕ)) → is_table limit names ≡ true → list_all is_name names ≡ true
unfolding is_table
table_names limit names h = (and_parts (list_all is_name names) (all_differ names) (and_parts _ (nat_le (length names) limit) h).0).0

pub table_differs : (limit : ℕ) (names : List (List ℕ)) → is_table limit names ≡ true → all_differ names ≡ true
unfolding is_table
table_differs limit names h = (and_parts (list_all is_name names) (all_differ names) (and_parts _ (nat_le (length names) limit) h).0).1

pub table_length : (limit : ℕ) (names : List (List ℕ)) → is_table limit names ≡ true → length names ≤ limit
unfolding is_table
table_length limit names h = leb-true (length names) limit (and_parts (list_all is_name names && all_differ names) _ h).1

pub table_empty : (limit : ℕ) → is_table limit [] ≡ true
unfolding is_table all_differ
table_empty limit = le-leb 0 limit (omega arith)

-- each name in a table is a name
pub table_name_at : (limit : ℕ) (names : List (List ℕ)) (name : List ℕ) (n : ℕ) → is_table limit names ≡ true → slice_get names n ≡ Some name → is_name name ≡ true
table_name_at limit names name n h there = at names n (table_names limit names h) there
  where
    at : (xs : List (List ℕ)) (k : ℕ) → list_all is_name xs ≡ true → slice_get xs k ≡ Some name → is_name name ≡ true
    at [] k each there = absurd (true≢false (sym (ap is_some there)))
    at (x ∷ xs) zero each there = let e : x ≡ name = cc in ap is_name (sym e) ∙ (and_parts (is_name x) (list_all is_name xs) each).0
    at (x ∷ xs) (suc k) each there = at xs k (and_parts (is_name x) (list_all is_name xs) each).1 there

-- a new name in a table that is not full makes a table
pub table_push : (limit : ℕ) (names : List (List ℕ)) (x : List ℕ) → is_table limit names ≡ true → is_name x ≡ true → knows names x ≡ false → length names < limit → is_table limit (names ++ x ∷ []) ≡ true
table_push limit names x table good new room =
    let longer = length-append names (x ∷ []) in
    let few : length (names ++ x ∷ []) ≤ limit = omega arith in
    table_of limit _ (list_all-append is_name names (x ∷ []) ∙ and_from _ _ (table_names limit names table) (and_from _ _ good refl)) (all_differ_push names x (table_differs limit names table) new) few
