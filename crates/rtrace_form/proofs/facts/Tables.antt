-- A table that grows by one name, and groups that grow by one.
use Rattle.std.proofs.Common.{◌≡◌, ℕ, Bool, true, false, not, ◌&&◌, ◌||◌, ◌==◌, List, [], ◌∷◌, ◌++◌, length, refl, sym, ap, ◌∙◌, arith, length-append}
use Rattle.std.specs.Prelude.{nat_le}
use Rattle.std.specs.List.{list_any, list_all}
use Rattle.std.proofs.lemmas.Bool.Decides.{nat_tests}
use Rattle.std.proofs.lemmas.Bool.{true≢false}
use Rattle.std.proofs.lemmas.Cmp.{nat_list_eq_equiv}
use Rattle.rset.specs.Names.{is_name, knows, same_name, all_differ, is_table}
use Rattle.rset.proofs.NameLemmas.{table_empty}
use Rattle.std.specs.FinSet.{len}
use Rattle.rset.specs.Sets.{Set}
use Rattle.rexpand.specs.declared.TheConstants.{GROUPS}
use Rattle.rtrace_form.specs.Heads.{has_member, are_read_groups, is_bad_name}
use Rattle.rtrace_form.proofs.facts.Tests.{and_assoc, both_of, neither_of, not_false, not_true, or_assoc}

all-append : {X : Type 0} (p : X → Bool) (xs ys : List X) → list_all p (xs ++ ys) ≡ (list_all p xs && list_all p ys)
all-append p [] ys = refl
all-append p (x ∷ xs) ys = ap (λ b. p x && b) (all-append p xs ys) ∙ and_assoc (p x) (list_all p xs) (list_all p ys)

any-append : {X : Type 0} (p : X → Bool) (xs ys : List X) → list_any p (xs ++ ys) ≡ (list_any p xs || list_any p ys)
any-append p [] ys = refl
any-append p (x ∷ xs) ys = ap (λ b. p x || b) (any-append p xs ys) ∙ or_assoc (p x) (list_any p xs) (list_any p ys)

-- where names differ and another follows, it is not any of those before it
knows-front : (before after : List (List ℕ)) (name : List ℕ) → all_differ (before ++ name ∷ after) ≡ true → knows before name ≡ false
unfolding all_differ knows
knows-front [] after name h = refl
knows-front (x ∷ before) after name h =
    let parts = both_of (not (knows (before ++ name ∷ after) x)) _ h in
    let none = neither_of (list_any (same_name x) before) _ (sym (any-append (same_name x) before (name ∷ after)) ∙ not_true _ parts.0) in
    let other : same_name name x ≡ false = nat_list_eq_equiv.symm name x ∙ (neither_of (same_name x name) _ none.1).0 in
    ap (λ b. b || knows before name) other ∙ knows-front before after name parts.1

all_differ-push : (names : List (List ℕ)) (name : List ℕ) → all_differ names ≡ true → knows names name ≡ false → all_differ (names ++ name ∷ []) ≡ true
unfolding all_differ knows
all_differ-push [] name h new = refl
all_differ-push (x ∷ names) name h new =
    let parts = both_of (not (knows names x)) _ h in
    let apart = neither_of (same_name name x) (knows names name) new in
    let other : same_name x name ≡ false = nat_list_eq_equiv.symm x name ∙ apart.0 in
    let unknown : knows (names ++ name ∷ []) x ≡ false =
    any-append (same_name x) names (name ∷ []) ∙ ap (λ b. b || (same_name x name || false)) (not_true _ parts.0) ∙ ap (λ b. b || false) other in
    ap (λ b. not b && all_differ (names ++ name ∷ [])) unknown ∙ all_differ-push names name parts.1 apart.1

three : (a b c : Bool) → (a && b && c) ≡ true → (a ≡ true) × (b ≡ true) × (c ≡ true)
three true true true h = (refl, refl, refl)
three true true false h = absurd (true≢false (sym h))
three true false c h = absurd (true≢false (sym h))
three false b c h = absurd (true≢false (sym h))

-- a name in a table is not refused by the names before it
pub table-front : (limit : ℕ) (before after : List (List ℕ)) (name : List ℕ) → is_table limit (before ++ name ∷ after) ≡ true → is_bad_name limit before name ≡ false
unfolding is_table
table-front limit before after name h =
    let parts = three (list_all is_name (before ++ name ∷ after)) (all_differ (before ++ name ∷ after)) _ h in
    let named = both_of (list_all is_name before) _ (sym (all-append is_name before (name ∷ after)) ∙ parts.0) in
    let is : is_name name ≡ true = (both_of (is_name name) _ named.1).0 in
    let new : knows before name ≡ false = knows-front before after name parts.1 in
    let room : (length before == limit) ≡ false = (let all = parts.2 in let size = length-append before (name ∷ after) in grind (arith, nat_tests)) in
    rw (is, new, room) refl

-- a table with one more name that it does not refuse is a table
pub table-push : (limit : ℕ) (names : List (List ℕ)) (name : List ℕ) → is_table limit names ≡ true → is_bad_name limit names name ≡ false → is_table limit (names ++ name ∷ []) ≡ true
unfolding is_table
table-push limit names name h fits =
    let parts = three (list_all is_name names) (all_differ names) _ h in
    let room = neither_of (not (is_name name) || knows names name) _ fits in
    let kinds = neither_of (not (is_name name)) _ room.0 in
    let is : is_name name ≡ true = not_false (is_name name) kinds.0 in
    let named : list_all is_name (names ++ name ∷ []) ≡ true = all-append is_name names (name ∷ []) ∙ rw (parts.0, is) refl in
    let differ : all_differ (names ++ name ∷ []) ≡ true = all_differ-push names name parts.1 kinds.1 in
    let few : nat_le (length (names ++ name ∷ [])) limit ≡ true = (let full = room.1 in let size = length-append names (name ∷ []) in grind (arith, nat_tests)) in
    rw (named, differ, few) refl

pub table-empty : (limit : ℕ) → is_table limit [] ≡ true
table-empty limit = table_empty limit

-- ---- read groups

-- a group among others has a member, and there was room for it after those before it
pub groups-front : (before after : List Set) (group : Set) → are_read_groups (before ++ group ∷ after) ≡ true → ((len group == 0) ≡ false) × ((length before == GROUPS) ≡ false)
groups-front before after group h =
    let parts = both_of (list_all has_member (before ++ group ∷ after)) _ h in
    let members = both_of (list_all has_member before) _ (sym (all-append has_member before (group ∷ after)) ∙ parts.0) in
    let some : (len group == 0) ≡ false = not_true (len group == 0) (both_of (has_member group) _ members.1).0 in
    let room : (length before == GROUPS) ≡ false = (let all = parts.1 in let size = length-append before (group ∷ after) in grind (arith, nat_tests)) in
    (some, room)

-- groups with one more that has a member are groups, where there was room
pub groups-push : (groups : List Set) (group : Set) → are_read_groups groups ≡ true → (len group == 0) ≡ false → (length groups == GROUPS) ≡ false → are_read_groups (groups ++ group ∷ []) ≡ true
groups-push groups group h some full =
    let parts = both_of (list_all has_member groups) _ h in
    let members : list_all has_member (groups ++ group ∷ []) ≡ true = all-append has_member groups (group ∷ []) ∙ rw (parts.0, some) refl in
    let few : nat_le (length (groups ++ group ∷ [])) GROUPS ≡ true = (let size = length-append groups (group ∷ []) in grind (arith, nat_tests)) in
    rw (members, few) refl

pub groups-empty : are_read_groups [] ≡ true
groups-empty = refl
