-- Which groups contain a resource, as it is recorded: how that is kept, and that it shows whether a set lies inside one group.
use Rattle.std.proofs.Common.{◌≡◌, ◌⊎◌, ℕ, ◌+◌, ◌*◌, ◌/◌, ◌%◌, ◌<◌, ◌≤◌, ◌==◌, ◌&&◌, ◌||◌, Bool, zero, suc, true, false, cond, List, [], ◌∷◌, ◌++◌, length, get_or, fold, refl, sym, ap, subst, ◌∙◌, inl, inr, arith}
use Rattle.std.specs.Prelude.{replicate}
use Rattle.std.specs.List.{list_any, list_all}
use Rattle.std.specs.FinSet.{empty, contains, insert, union, is_subset}
use Rattle.std.proofs.Math.Bool.{or-false, and-true, and_assoc}
use Rattle.std.proofs.Math.Seq.{get_or-append_seam}
use Rattle.std.proofs.lemmas.List.{length-replicate, get_or-replicate, get_or_past}
use Rattle.std.proofs.lemmas.List.Folds.{list_any_at}
use Rattle.std.proofs.lemmas.Bool.{cases_eq, cases_lt, eqb-true, eq-eqb, and_parts, and_from, or_cases, false_from_ne_true}
use Rattle.rset.specs.declared.TheConstants.{RESOURCES}
use Rattle.rset.specs.Sets.{Set, all_below, rising}
use Rattle.rset.proofs.SetLemmas.{same_test, contains_empty, contains_insert, contains_union, contains_intersection, within_at, within_from, rising_has, rising_member, all_below_at, filled_by}
use Rattle.rset.proofs.SetMembers.{contrary, passing, passes_at, all_at, all_from}
use Rattle.rexpand.specs.declared.TheConstants.{GROUPS, BLOCKS}
use Rattle.rexpand.specs.Groups.{is_inside}
use Rattle.rexpand.specs.Kept.{IsNoted, place_in, widen, narrow}
use Rattle.rexpand.proofs.EntryLemmas.{length_widened, widened}

-- ---- how it is kept

-- no groups, and no numbers
pub noted_none : (q : ℕ) → IsNoted q [] (replicate (q * BLOCKS) empty)
noted_none q = record {
  size = length-replicate (q * BLOCKS) empty;
  each = λ l block j low few small. ap (λ s. contains s j) (get_or-replicate (q * BLOCKS) (place_in block l) empty empty (omega arith)) ∙ contains_empty j ∙ sym (contains_empty l);
}

-- as many resources as there are sets for each block
pub noted_for : (q : ℕ) (groups noted : List Set) → IsNoted q groups noted → length noted / BLOCKS ≡ q
noted_for q groups noted kept = let size = kept.size in omega arith

-- a copy of it can be read
pub noted_read : (q : ℕ) (groups noted read : List Set) → IsNoted q groups noted → read ≡ noted → IsNoted (length read / BLOCKS) groups read
noted_read q groups noted read kept same =
    subst (λ (ns : List Set). IsNoted (length ns / BLOCKS) groups ns) (sym same)
    (subst (λ (n : ℕ). IsNoted n groups noted) (sym (noted_for q groups noted kept)) kept)

-- a group that is added at the end changes no other
get_or_push : (groups : List Set) (group : Set) (i : ℕ) → (length groups ≡ i → ⊥) → get_or (groups ++ group ∷ []) i empty ≡ get_or groups i empty
get_or_push [] group zero other = absurd (other refl)
get_or_push [] group (suc i) other = refl
get_or_push (g ∷ groups) group zero other = refl
get_or_push (g ∷ groups) group (suc i) other = get_or_push groups group i (λ same. other (ap suc same))

-- the number j0 is added where b says so
contains_added : (b : Bool) (s : Set) (j0 j : ℕ) → contains (cond b (union s (insert empty j0)) s) j ≡ (contains s j || (b && (j == j0)))
contains_added true s j0 j =
    contains_union s (insert empty j0) j
    ∙ ap (λ a. contains s j || a) (contains_insert empty j0 j ∙ ap (λ a. (j == j0) || a) (contains_empty j) ∙ or-false (j == j0))
contains_added false s j0 j = sym (or-false (contains s j))

-- the places of a block that are changed are those of the members
member_place : (group : Set) (block l : ℕ) → all_below RESOURCES group ≡ true → list_any (λ y. place_in block y == place_in block l) (rising group) ≡ contains group l
member_place group block l low = same_test _ _
    (λ some.
    let found = passing (λ y. place_in block y == place_in block l) (rising group) some in
    let at : place_in block found.0 ≡ place_in block l = eqb-true _ _ found.1 in
    let same : found.0 ≡ l = omega arith in
    ap (contains group) (sym same) ∙ rising_member group found.0 found.2)
    (λ there. passes_at (λ y. place_in block y == place_in block l) l (eq-eqb _ _ refl) (rising group) (rising_has group low l ∙ there))

-- another group is recorded at each of its members
pub noted_push : (q : ℕ) (groups noted : List Set) (group : Set) → IsNoted q groups noted → all_below q group ≡ true → all_below RESOURCES group ≡ true → length groups < GROUPS → IsNoted q (groups ++ group ∷ []) (fold (widen (place_in (length groups / RESOURCES)) (insert empty (length groups % RESOURCES))) noted (rising group))
noted_push q groups noted group kept below low room = record {
  size = length_widened (place_in b0) (insert empty j0) (rising group) noted ∙ kept.size;
  each = each;
}
  where
    b0 : ℕ
    b0 = length groups / RESOURCES

    j0 : ℕ
    j0 = length groups % RESOURCES

    changed : ℕ → ℕ → Bool
    changed l block = list_any (λ y. place_in b0 y == place_in block l) (rising group)

    each : (l block j : ℕ) → l < q → block < BLOCKS → j < RESOURCES → contains (get_or (fold (widen (place_in b0) (insert empty j0)) noted (rising group)) (place_in block l) empty) j ≡ contains (get_or (groups ++ group ∷ []) (block * RESOURCES + j) empty) l
    each l block j small few fits =
        ap (λ s. contains s j) (widened (place_in b0) (insert empty j0) (rising group) noted (place_in block l) (let size = kept.size in omega arith))
        ∙ contains_added (changed l block) (get_or noted (place_in block l) empty) j0 j
        ∙ ap (λ a. a || (changed l block && (j == j0))) (kept.each l block j small few fits)
        ∙ split (cases_eq (length groups) (block * RESOURCES + j))
      where
        split : (length groups ≡ block * RESOURCES + j) ⊎ (length groups ≡ block * RESOURCES + j → ⊥) → (contains (get_or groups (block * RESOURCES + j) empty) l || (changed l block && (j == j0))) ≡ contains (get_or (groups ++ group ∷ []) (block * RESOURCES + j) empty) l
        split (inl same) =
            let at_block : length groups / RESOURCES ≡ block = omega arith in
            let at_bit : j ≡ length groups % RESOURCES = omega arith in
            let new : contains (get_or groups (block * RESOURCES + j) empty) l ≡ false = ap (λ s. contains s l) (get_or_past groups (block * RESOURCES + j) empty (omega arith)) ∙ contains_empty l in
            let here : changed l block ≡ contains group l = ap (λ b. list_any (λ y. place_in b y == place_in block l) (rising group)) at_block ∙ member_place group block l low in
            (λ i. new i || (here i && eq-eqb j j0 at_bit i))
            ∙ and-true (contains group l)
            ∙ ap (λ s. contains s l) (sym (ap (λ n. get_or (groups ++ group ∷ []) n empty) (sym same) ∙ get_or-append_seam groups group [] empty))
        split (inr other) =
            ap (λ a. contains (get_or groups (block * RESOURCES + j) empty) l || a)
            (false_from_ne_true (changed l block && (j == j0)) (λ both.
            let parts = and_parts (changed l block) (j == j0) both in
            let found = passing (λ y. place_in b0 y == place_in block l) (rising group) parts.0 in
            let at : place_in b0 found.0 ≡ place_in block l = eqb-true _ _ found.1 in
            let bit : j ≡ length groups % RESOURCES = eqb-true j j0 parts.1 in
            other (omega arith)))
            ∙ or-false (contains (get_or groups (block * RESOURCES + j) empty) l)
            ∙ ap (λ s. contains s l) (sym (get_or_push groups group (block * RESOURCES + j) other))

-- ---- what it shows

-- the numbers that are left are those recorded at each resource of the list
contains_narrowed : (noted : List Set) (block : ℕ) (xs : List ℕ) (s : Set) (j : ℕ) → contains (fold (narrow noted block) s xs) j ≡ (contains s j && list_all (λ m. contains (get_or noted (place_in block m) empty) j) xs)
contains_narrowed noted block [] s j = sym (and-true (contains s j))
contains_narrowed noted block (x ∷ xs) s j =
    contains_narrowed noted block xs (narrow noted block s x) j
    ∙ ap (λ b. b && list_all (λ m. contains (get_or noted (place_in block m) empty) j) xs) (contains_intersection s (get_or noted (place_in block x) empty) j)
    ∙ and_assoc (contains s j) (contains (get_or noted (place_in block x) empty) j) (list_all (λ m. contains (get_or noted (place_in block m) empty) j) xs)

-- the groups of a block whose numbers are recorded at each member of the set; l is a member
abbrev pub groups_around : List Set → ℕ → Set → ℕ → Set
groups_around noted block s l = fold (narrow noted block) (get_or noted (place_in block l) empty) (rising s)

-- where there is such a group, the set lies inside it
pub inside_by_number : (q : ℕ) (groups noted : List Set) (s : Set) (l block j : ℕ) → IsNoted q groups noted → all_below q s ≡ true → all_below RESOURCES s ≡ true → contains s l ≡ true → block < BLOCKS → j < RESOURCES → contains (groups_around noted block s l) j ≡ true → is_inside groups s ≡ true
unfolding is_inside
inside_by_number q groups noted s l block j kept below low at_l few small there =
    list_any_at (is_subset s) groups (block * RESOURCES + j) empty number (within_from s (get_or groups (block * RESOURCES + j) empty) holds)
  where
    parts : (contains (get_or noted (place_in block l) empty) j ≡ true) × (list_all (λ m. contains (get_or noted (place_in block m) empty) j) (rising s) ≡ true)
    parts = and_parts _ _ (sym (contains_narrowed noted block (rising s) (get_or noted (place_in block l) empty) j) ∙ there)

    holds : (m : ℕ) → contains s m ≡ true → contains (get_or groups (block * RESOURCES + j) empty) m ≡ true
    holds m at_m =
        sym (kept.each m block j (all_below_at q s below m at_m) few small)
        ∙ all_at (λ m. contains (get_or noted (place_in block m) empty) j) m (rising s) parts.1 (rising_has s low m ∙ at_m)

    number : block * RESOURCES + j < length groups
    number = elim (cases_lt (block * RESOURCES + j) (length groups)) [
      | inl below ↦ below
      | inr past ↦ contrary _ (holds l at_l) (ap (λ t. contains t l) (get_or_past groups (block * RESOURCES + j) empty past) ∙ contains_empty l)
    ]

-- the number of a group that passes a test
number_passing : (p : Set → Bool) (groups : List Set) → list_any p groups ≡ true → (i : ℕ) × (i < length groups) × (p (get_or groups i empty) ≡ true)
number_passing p [] some = contrary true refl (sym some)
number_passing p (g ∷ groups) some = elim (or_cases (p g) (list_any p groups) some) [
  | inl here ↦ (0, omega arith, here)
  | inr later ↦ let found = number_passing p groups later in let small = found.1 in (suc found.0, omega arith, found.2)
]

-- where no block has one, the set lies inside no group
pub inside_no_number : (q : ℕ) (groups noted : List Set) (s : Set) (l : ℕ) → length groups ≤ GROUPS → IsNoted q groups noted → all_below q s ≡ true → contains s l ≡ true → ((block : ℕ) → block < BLOCKS → groups_around noted block s l ≡ empty) → is_inside groups s ≡ false
unfolding is_inside
inside_no_number q groups noted s l few kept below at_l none = false_from_ne_true _ (λ inside.
    let found = number_passing (is_subset s) groups inside in
    refuted found.0 found.1 found.2)
  where
    refuted : (i : ℕ) → i < length groups → is_subset s (get_or groups i empty) ≡ true → ⊥
    refuted i small within = filled_by (groups_around noted (i / RESOURCES) s l) (i % RESOURCES)
        (contains_narrowed noted (i / RESOURCES) (rising s) (get_or noted (place_in (i / RESOURCES) l) empty) (i % RESOURCES)
        ∙ and_from _ _ (noted_at l at_l) (all_from (λ m. contains (get_or noted (place_in (i / RESOURCES) m) empty) (i % RESOURCES)) (rising s) (λ m there. noted_at m (rising_member s m there))))
        (none (i / RESOURCES) (omega arith))
      where
        noted_at : (m : ℕ) → contains s m ≡ true → contains (get_or noted (place_in (i / RESOURCES) m) empty) (i % RESOURCES) ≡ true
        noted_at m at_m =
            let whole : i / RESOURCES * RESOURCES + i % RESOURCES ≡ i = omega arith in
            kept.each m (i / RESOURCES) (i % RESOURCES) (all_below_at q s below m at_m) (omega arith) (omega arith)
            ∙ ap (λ n. contains (get_or groups n empty) m) whole
            ∙ within_at s (get_or groups i empty) within m at_m
