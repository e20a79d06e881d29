-- Declared sets: which sets are, and that each member is shared with each other.
use Rattle.std.proofs.Common.{◌≡◌, ◌⊎◌, ℕ, ◌+◌, ◌-◌, ◌<◌, ◌≤◌, ◌==◌, ◌&&◌, ◌||◌, not, true, false, cond, List, [], ◌∷◌, ◌++◌, nat_lt, refl, sym, ap, ◌∙◌, inl, inr, arith}
use Rattle.std.specs.List.{list_any, list_all}
use Rattle.std.specs.Ordering.{nat_cmp}
use Rattle.std.specs.Cmp.{nat_cmp_total}
use Rattle.std.specs.FinSet.{empty, contains, insert, remove, len, is_subset, empty_of_len, len-empty, len-insert, len-remove}
use Rattle.std.proofs.lemmas.Bool.{eqb-true, eq-eqb, ltb-false, ne_eqb, or_cases, or_left, or_right, and_parts, and_from, false_from_ne_true, true_from_ne_false}
use Rattle.std.proofs.lemmas.List.Folds.{list_any-append}
use Rattle.rset.specs.Sets.{Set, all_below}
use Rattle.rset.proofs.SetLemmas.{contains_empty, contains_remove, all_below_at, all_below_within, within_at, within_from, within_transitive}
use Rattle.rset.proofs.SetMembers.{contrary}
use Rattle.rexpand.specs.Groups.{shared_with, is_inside, is_declared, is_group}
use Rattle.rexpand.proofs.SharedLemmas.{in_one_group, shared_itself, shared_by_group}

-- ---- the number of members

-- a set has a member exactly where it is not empty
pub some_members : (s : Set) → (s ≡ empty → ⊥) → nat_lt 0 (len s) ≡ true
some_members s filled = true_from_ne_false _ (λ none. filled (empty_of_len s (zero (len s) none)))
  where
    zero : (n : ℕ) → nat_lt 0 n ≡ false → n ≡ 0
    zero n h = let le = ltb-false 0 n h in omega arith

pub filled_by_number : (s : Set) → nat_lt 0 (len s) ≡ true → s ≡ empty → ⊥
filled_by_number s some none = contrary _ some (ap (λ t. nat_lt 0 (len t)) none ∙ ap (nat_lt 0) (len-empty nat_cmp))

-- the members of a set with one member are equal
pub one_member : (s : Set) (k l : ℕ) → len s ≡ 1 → contains s k ≡ true → contains s l ≡ true → l ≡ k
one_member s k l one at_k at_l = eqb-true l k (true_from_ne_false (l == k) (λ other.
    contrary _
    (contains_remove s k l ∙ and_from _ _ (ap not other) at_l)
    (ap (λ t. contains t l) (empty_of_len (remove s k) (len-remove nat_cmp_total s k ∙ ap (λ b. cond b (len s - 1) (len s)) at_k ∙ ap (λ n. n - 1) one)) ∙ contains_empty l)))

-- ---- inside a group

-- a set inside a group lies in what is shared with each of its members
pub inside_shared : (groups : List Set) (s : Set) (k l : ℕ) → is_inside groups s ≡ true → contains s k ≡ true → contains s l ≡ true → contains (shared_with groups l) k ≡ true
unfolding is_inside
inside_shared groups s k l inside at_k at_l = shared_by_group groups l k (both groups inside)
  where
    both : (gs : List Set) → list_any (is_subset s) gs ≡ true → in_one_group gs l k ≡ true
    both [] inside = inside
    both (g ∷ gs) inside = elim (or_cases (is_subset s g) (list_any (is_subset s) gs) inside) [
      | inl here ↦ or_left _ _ (and_from _ _ (within_at s g here l at_l) (within_at s g here k at_k))
      | inr later ↦ or_right _ _ (both gs later)
    ]

-- and so does a set that is within it
pub inside_within : (groups : List Set) (s t : Set) → is_subset s t ≡ true → is_inside groups t ≡ true → is_inside groups s ≡ true
unfolding is_inside
inside_within [] s t within inside = inside
inside_within (g ∷ gs) s t within inside = elim (or_cases (is_subset t g) (list_any (is_subset t) gs) inside) [
  | inl here ↦ or_left _ _ (within_transitive s t g within here)
  | inr later ↦ or_right _ _ (inside_within gs s t within later)
]

-- a set that does not lie in what is shared with one of its members is inside no group
pub inside_no_group : (groups : List Set) (s : Set) (l : ℕ) → contains s l ≡ true → is_subset s (shared_with groups l) ≡ false → is_inside groups s ≡ false
inside_no_group groups s l at_l outside = false_from_ne_true _ (λ inside.
    contrary _ (within_from s (shared_with groups l) (λ k at_k. inside_shared groups s k l inside at_k at_l)) outside)

-- a set inside a group lies below q where the groups do
pub inside_below : (q : ℕ) (groups : List Set) (s : Set) → list_all (is_group q) groups ≡ true → is_inside groups s ≡ true → all_below q s ≡ true
unfolding is_inside is_group
inside_below q [] s each inside = contrary true refl (sym inside)
inside_below q (g ∷ gs) s each inside =
    let parts = and_parts (nat_lt 0 (len g) && all_below q g) (list_all (is_group q) gs) each in
    elim (or_cases (is_subset s g) (list_any (is_subset s) gs) inside) [
      | inl here ↦ all_below_within q s g here (and_parts (nat_lt 0 (len g)) (all_below q g) parts.0).1
      | inr later ↦ inside_below q gs s parts.1 later
    ]

-- so a set with a member that is not below q is inside no group
pub inside_none_above : (q : ℕ) (groups : List Set) (s : Set) (l : ℕ) → list_all (is_group q) groups ≡ true → contains s l ≡ true → q ≤ l → is_inside groups s ≡ false
inside_none_above q groups s l each at_l above = false_from_ne_true _ (λ inside.
    let below : l < q = all_below_at q s (inside_below q groups s each inside) l at_l in absurd (omega arith))

-- more groups only add
pub inside_grows : (groups more : List Set) (s : Set) → is_inside groups s ≡ true → is_inside (groups ++ more) s ≡ true
unfolding is_inside
inside_grows groups more s inside = list_any-append (is_subset s) groups more ∙ or_left _ _ inside

-- ---- declared

pub declared_filled : (groups : List Set) (s : Set) → is_declared groups s ≡ true → s ≡ empty → ⊥
unfolding is_declared
declared_filled groups s h = elim (or_cases (len s == 1) (nat_lt 0 (len s) && is_inside groups s) h) [
  | inl one ↦ filled_by_number s (ap (nat_lt 0) (eqb-true (len s) 1 one))
  | inr inside ↦ filled_by_number s (and_parts (nat_lt 0 (len s)) (is_inside groups s) inside).0
]

pub declared_empty : (groups : List Set) → is_declared groups empty ≡ false
declared_empty groups = false_from_ne_true _ (λ h. declared_filled groups empty h refl)

-- a set with one member is declared
pub declared_one_member : (groups : List Set) (s : Set) → len s ≡ 1 → is_declared groups s ≡ true
unfolding is_declared
declared_one_member groups s one = or_left _ _ (eq-eqb (len s) 1 one)

pub declared_one : (groups : List Set) (l : ℕ) → is_declared groups (insert empty l) ≡ true
declared_one groups l = declared_one_member groups (insert empty l)
    (len-insert nat_cmp_total empty l ∙ ap (λ b. cond b (len (empty {R = nat_cmp})) (len (empty {R = nat_cmp}) + 1)) (contains_empty l) ∙ ap (λ n. n + 1) (len-empty nat_cmp))

-- a set with a member that lies inside a group is declared
pub declared_inside : (groups : List Set) (s : Set) → (s ≡ empty → ⊥) → is_inside groups s ≡ true → is_declared groups s ≡ true
unfolding is_declared
declared_inside groups s filled inside = or_right _ _ (and_from _ _ (some_members s filled) inside)

-- and where it has more than one member, only then
pub declared_many : (groups : List Set) (s : Set) → (len s ≡ 1 → ⊥) → (s ≡ empty → ⊥) → is_declared groups s ≡ is_inside groups s
unfolding is_declared
declared_many groups s many filled =
    ap (λ b. b || (nat_lt 0 (len s) && is_inside groups s)) (ne_eqb (len s) 1 many) ∙ ap (λ b. b && is_inside groups s) (some_members s filled)

-- there is no other reason for a set to be declared
pub declared_cases : (groups : List Set) (s : Set) → is_declared groups s ≡ true → (len s ≡ 1) ⊎ (is_inside groups s ≡ true)
unfolding is_declared
declared_cases groups s h = elim (or_cases (len s == 1) (nat_lt 0 (len s) && is_inside groups s) h) [
  | inl one ↦ inl (eqb-true (len s) 1 one)
  | inr inside ↦ inr (and_parts (nat_lt 0 (len s)) (is_inside groups s) inside).1
]

-- each member of a declared set is shared with each other
pub declared_shared : (groups : List Set) (s : Set) (k l : ℕ) → is_declared groups s ≡ true → contains s k ≡ true → contains s l ≡ true → contains (shared_with groups l) k ≡ true
declared_shared groups s k l h at_k at_l = elim (declared_cases groups s h) [
  | inl one ↦ ap (λ n. contains (shared_with groups n) k) (one_member s k l one at_k at_l) ∙ shared_itself groups k
  | inr inside ↦ inside_shared groups s k l inside at_k at_l
]

-- so a declared set lies in what is shared with each of its members
pub declared_within_shared : (groups : List Set) (s : Set) (l : ℕ) → is_declared groups s ≡ true → contains s l ≡ true → is_subset s (shared_with groups l) ≡ true
declared_within_shared groups s l h at_l = within_from _ _ (λ k at_k. declared_shared groups s k l h at_k at_l)

-- more groups only add
pub declared_grows : (groups more : List Set) (s : Set) → is_declared groups s ≡ true → is_declared (groups ++ more) s ≡ true
unfolding is_declared
declared_grows groups more s h = elim (or_cases (len s == 1) (nat_lt 0 (len s) && is_inside groups s) h) [
  | inl one ↦ or_left _ _ one
  | inr inside ↦
      let parts = and_parts (nat_lt 0 (len s)) (is_inside groups s) inside in
      or_right _ _ (and_from _ _ parts.0 (inside_grows groups more s parts.1))
]
