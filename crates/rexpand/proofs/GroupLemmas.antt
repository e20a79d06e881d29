-- What every list of groups has, and adding a group.
use Rattle.std.proofs.Common.{◌≡◌, ℕ, suc, zero, ◌<◌, ◌≤◌, ◌&&◌, true, List, [], ◌∷◌, ◌++◌, length, refl, sym, ap, ◌∙◌, arith, length-append}
use Rattle.std.specs.Prelude.{slice_get, Some, is_some, nat_le, nat_lt}
use Rattle.std.specs.List.{list_all}
use Rattle.std.specs.FinSet.{empty, len}
use Rattle.std.proofs.lemmas.Bool.{true≢false, and_parts, and_from, leb-true, le-leb}
use Rattle.std.proofs.lemmas.List.Folds.{list_all-append}
use Rattle.rset.specs.declared.TheConstants.{RESOURCES}
use Rattle.rset.specs.Sets.{Set, all_below}
use Rattle.rexpand.specs.declared.TheConstants.{GROUPS}
use Rattle.rexpand.specs.Groups.{ReadGroups, no_groups, is_group, are_groups}
use Rattle.rexpand.proofs.DeclaredLemmas.{some_members}

-- ---- one group

pub group_of : (q : ℕ) (s : Set) → (s ≡ empty → ⊥) → all_below q s ≡ true → is_group q s ≡ true
unfolding is_group
group_of q s filled low = and_from _ _ (some_members s filled) low

pub group_below : (q : ℕ) (s : Set) → is_group q s ≡ true → all_below q s ≡ true
unfolding is_group
group_below q s h = (and_parts (nat_lt 0 (len s)) (all_below q s) h).1

-- ---- the list of groups

-- what is true of every list of groups, by name
pub record AreGroups (q : ℕ) (groups : List Set) : Type 0 where
  pub some : 1 ≤ q
  pub small : q ≤ RESOURCES
  pub few : length groups ≤ GROUPS
  pub each : list_all (is_group q) groups ≡ true

pub groups_parts : (g : ReadGroups) → are_groups g ≡ true → AreGroups g.q g.groups
unfolding are_groups
groups_parts g h =
    let outer = and_parts (nat_le 1 g.q && nat_le g.q RESOURCES && nat_le (length g.groups) GROUPS) (list_all (is_group g.q) g.groups) h in
    let middle = and_parts (nat_le 1 g.q && nat_le g.q RESOURCES) (nat_le (length g.groups) GROUPS) outer.0 in
    let inner = and_parts (nat_le 1 g.q) (nat_le g.q RESOURCES) middle.0 in
    record { some = leb-true 1 g.q inner.0; small = leb-true g.q RESOURCES inner.1; few = leb-true (length g.groups) GROUPS middle.1; each = outer.1 }

pub groups_of : (g : ReadGroups) → AreGroups g.q g.groups → are_groups g ≡ true
unfolding are_groups
groups_of g h =
    and_from _ _ (and_from _ _ (and_from _ _ (le-leb 1 g.q h.some) (le-leb g.q RESOURCES h.small)) (le-leb (length g.groups) GROUPS h.few)) h.each

-- each of them is a group
pub group_at : (g : ReadGroups) (i : ℕ) (s : Set) → are_groups g ≡ true → slice_get g.groups i ≡ Some s → is_group g.q s ≡ true
group_at g i s h there = at g.groups i (groups_parts g h).each there
  where
    at : (xs : List Set) (k : ℕ) → list_all (is_group g.q) xs ≡ true → slice_get xs k ≡ Some s → is_group g.q s ≡ true
    at [] k each there = absurd (true≢false (sym (ap is_some there)))
    at (x ∷ xs) zero each there = let e : x ≡ s = cc in ap (is_group g.q) (sym e) ∙ (and_parts (is_group g.q x) (list_all (is_group g.q) xs) each).0
    at (x ∷ xs) (suc k) each there = at xs k (and_parts (is_group g.q x) (list_all (is_group g.q) xs) each).1 there

-- another group, where there is room
pub groups_push : (q : ℕ) (groups : List Set) (s : Set) → AreGroups q groups → is_group q s ≡ true → length groups < GROUPS → AreGroups q (groups ++ s ∷ [])
groups_push q groups s h group room =
    let longer = length-append groups (s ∷ []) in
    record {
      some = h.some;
      small = h.small;
      few = omega arith;
      each = list_all-append (is_group q) groups (s ∷ []) ∙ and_from _ _ h.each (and_from _ _ group refl);
    }

-- so groups stay valid when one is declared
pub groups_declared : (g : ReadGroups) (s : Set) → are_groups g ≡ true → (s ≡ empty → ⊥) → all_below g.q s ≡ true → length g.groups < GROUPS → are_groups (record g { groups = g.groups ++ s ∷ [] }) ≡ true
groups_declared g s h filled low room = groups_of _ (groups_push g.q g.groups s (groups_parts g h) (group_of g.q s filled low) room)

-- and no groups are a list of groups
pub groups_none : (q : ℕ) → 1 ≤ q → q ≤ RESOURCES → are_groups (no_groups q) ≡ true
groups_none q some small = groups_of _ (record { some = some; small = small; few = omega arith; each = refl })
