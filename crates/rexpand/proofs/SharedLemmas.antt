-- What is shared with a resource: its members, and how it grows with the groups.
use Rattle.std.proofs.Common.{◌≡◌, ◌⊎◌, ℕ, ◌<◌, ◌==◌, ◌&&◌, ◌||◌, Bool, true, false, cond, List, [], ◌∷◌, ◌++◌, refl, sym, ap, subst, ◌∙◌, inl, inr}
use Rattle.std.specs.List.{list_any, list_all}
use Rattle.std.specs.FinSet.{empty, contains, insert, union, is_subset}
use Rattle.std.proofs.lemmas.Bool.{eqb-true, eq-eqb, or_cases, or_left, or_right, and_parts}
use Rattle.std.proofs.lemmas.List.Folds.{list_any-append}
use Rattle.rset.specs.Sets.{Set, all_below}
use Rattle.rset.proofs.SetLemmas.{same_test, same_members, contains_empty, contains_insert, contains_union, within_from, all_below_at, all_below_from}
use Rattle.rset.proofs.SetMembers.{contrary}
use Rattle.rexpand.specs.Groups.{shared_with, is_group}

-- some group contains both
abbrev pub in_one_group : List Set → ℕ → ℕ → Bool
in_one_group groups k l = list_any (λ group. contains group k && contains group l) groups

-- ---- tests

or_nothing : (a : Bool) → (a || false) ≡ a
or_nothing true = refl
or_nothing false = refl

or_moves : (a b c : Bool) → (b || (a || c)) ≡ (a || (b || c))
or_moves true true c = refl
or_moves true false c = refl
or_moves false b c = refl

and_swaps : (a b : Bool) → (a && b) ≡ (b && a)
and_swaps true true = refl
and_swaps true false = refl
and_swaps false true = refl
and_swaps false false = refl

equal_turned : (k l : ℕ) → (k == l) ≡ (l == k)
equal_turned k l = same_test _ _ (turn k l) (turn l k)
  where
    turn : (a b : ℕ) → (a == b) ≡ true → (b == a) ≡ true
    turn a b h = eq-eqb b a (sym (eqb-true a b h))

-- ---- members

-- k is shared with l exactly where they are equal, or some group contains both
pub contains-shared_with : (groups : List Set) (l k : ℕ) → contains (shared_with groups l) k ≡ ((k == l) || in_one_group groups l k)
unfolding shared_with
contains-shared_with [] l k = contains_insert empty l k ∙ ap (λ b. (k == l) || b) (contains_empty k)
contains-shared_with (group ∷ groups) l k = split (contains group l) (contains-shared_with groups l k)
  where
    split : (b : Bool) → contains (shared_with groups l) k ≡ ((k == l) || in_one_group groups l k) → contains (cond b (union group (shared_with groups l)) (shared_with groups l)) k ≡ ((k == l) || ((b && contains group k) || in_one_group groups l k))
    split true rest =
        contains_union group (shared_with groups l) k ∙ ap (λ b. contains group k || b) rest
        ∙ or_moves (k == l) (contains group k) (in_one_group groups l k)
    split false rest = rest

pub in_one_group_symmetric : (groups : List Set) (k l : ℕ) → in_one_group groups k l ≡ in_one_group groups l k
in_one_group_symmetric groups k l = λ i. list_any (λ group. and_swaps (contains group k) (contains group l) i) groups

-- k is shared with l exactly where l is shared with k
pub shared_symmetric : (groups : List Set) (l k : ℕ) → contains (shared_with groups l) k ≡ contains (shared_with groups k) l
shared_symmetric groups l k =
    contains-shared_with groups l k ∙ (λ i. equal_turned k l i || in_one_group_symmetric groups l k i) ∙ sym (contains-shared_with groups k l)

-- a resource is shared with itself
pub shared_itself : (groups : List Set) (l : ℕ) → contains (shared_with groups l) l ≡ true
shared_itself groups l = contains-shared_with groups l l ∙ or_left (l == l) _ (eq-eqb l l refl)

-- two resources that one group contains are shared with each other
pub shared_by_group : (groups : List Set) (l k : ℕ) → in_one_group groups l k ≡ true → contains (shared_with groups l) k ≡ true
shared_by_group groups l k both = contains-shared_with groups l k ∙ or_right (k == l) _ both

-- and others are not
pub shared_cases : (groups : List Set) (l k : ℕ) → contains (shared_with groups l) k ≡ true → (k ≡ l) ⊎ (in_one_group groups l k ≡ true)
shared_cases groups l k h = elim (or_cases (k == l) (in_one_group groups l k) (sym (contains-shared_with groups l k) ∙ h)) [
  | inl same ↦ inl (eqb-true k l same)
  | inr both ↦ inr both
]

-- where no group is declared, a resource is shared with itself alone
pub shared_alone : (l : ℕ) → shared_with [] l ≡ insert empty l
unfolding shared_with
shared_alone l = refl

-- ---- more groups

-- another group is added to what is shared with its members
pub shared_with_push : (groups : List Set) (group : Set) (l : ℕ) → shared_with (groups ++ group ∷ []) l ≡ cond (contains group l) (union (shared_with groups l) group) (shared_with groups l)
shared_with_push groups group l = same_members _ _ (λ k.
    contains-shared_with (groups ++ group ∷ []) l k
    ∙ ap (λ b. (k == l) || b) (list_any-append (λ g. contains g l && contains g k) groups (group ∷ []))
    ∙ split k (contains group l))
  where
    regroup : (a b c : Bool) → (a || (b || (c || false))) ≡ ((a || b) || c)
    regroup true b c = refl
    regroup false true c = refl
    regroup false false c = or_nothing c

    dropped : (a b : Bool) → (a || (b || false)) ≡ (a || b)
    dropped a b = ap (λ c. a || c) (or_nothing b)

    split : (k : ℕ) (b : Bool) → ((k == l) || (in_one_group groups l k || ((b && contains group k) || false))) ≡ contains (cond b (union (shared_with groups l) group) (shared_with groups l)) k
    split k true =
        regroup (k == l) (in_one_group groups l k) (contains group k) ∙ ap (λ b. b || contains group k) (sym (contains-shared_with groups l k))
        ∙ sym (contains_union (shared_with groups l) group k)
    split k false = dropped (k == l) (in_one_group groups l k) ∙ sym (contains-shared_with groups l k)

-- a group that does not contain the resource changes nothing
pub shared_persists : (groups : List Set) (group : Set) (l : ℕ) → contains group l ≡ false → shared_with (groups ++ group ∷ []) l ≡ shared_with groups l
shared_persists groups group l h =
    shared_with_push groups group l ∙ ap (λ b. cond b (union (shared_with groups l) group) (shared_with groups l)) h

-- more groups only add
pub shared_grows : (groups more : List Set) (l : ℕ) → is_subset (shared_with groups l) (shared_with (groups ++ more) l) ≡ true
shared_grows groups more l = within_from _ _ (λ k h.
    contains-shared_with (groups ++ more) l k
    ∙ ap (λ b. (k == l) || b) (list_any-append (λ g. contains g l && contains g k) groups more)
    ∙ wider (k == l) (in_one_group groups l k) (in_one_group more l k) (sym (contains-shared_with groups l k) ∙ h))
  where
    wider : (a b c : Bool) → (a || b) ≡ true → (a || (b || c)) ≡ true
    wider true b c h = refl
    wider false true c h = refl
    wider false false c h = contrary false h refl

-- ---- below q

-- what is shared with a resource lies below q where the groups do
pub shared_below : (q : ℕ) (groups : List Set) (l : ℕ) → list_all (is_group q) groups ≡ true → l < q → all_below q (shared_with groups l) ≡ true
unfolding is_group
shared_below q groups l each small = all_below_from q _ (λ k h. elim (shared_cases groups l k h) [
  | inl same ↦ subst (λ (n : ℕ). n < q) (sym same) small
  | inr both ↦ at k groups each both
])
  where
    at : (k : ℕ) (gs : List Set) → list_all (is_group q) gs ≡ true → in_one_group gs l k ≡ true → k < q
    at k [] each both = contrary true refl (sym both)
    at k (g ∷ gs) each both =
        let parts = and_parts (is_group q g) (list_all (is_group q) gs) each in
        elim (or_cases (contains g l && contains g k) (in_one_group gs l k) both) [
          | inl here ↦ all_below_at q g (and_parts _ (all_below q g) parts.0).1 k (and_parts (contains g l) (contains g k) here).1
          | inr later ↦ at k gs parts.1 later
        ]
