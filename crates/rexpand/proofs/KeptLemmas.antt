-- What is kept of the groups stays right when a group is declared.
use Rattle.std.proofs.Common.{◌≡◌, ℕ, ◌<◌, ◌≤◌, ◌*◌, ◌/◌, ◌%◌, true, cond, List, [], ◌∷◌, ◌++◌, length, get_or, fold, sym, ap, subst, ◌∙◌, arith}
use Rattle.std.specs.Prelude.{replicate}
use Rattle.std.specs.FinSet.{empty, insert, union}
use Rattle.rset.specs.declared.TheConstants.{RESOURCES}
use Rattle.rset.specs.Sets.{Set, all_below, rising}
use Rattle.rset.proofs.SetLemmas.{rising_has, all_below_at, all_below_from}
use Rattle.rexpand.specs.declared.TheConstants.{GROUPS, BLOCKS}
use Rattle.rexpand.specs.Groups.{shared_with, is_group, are_groups}
use Rattle.rexpand.specs.Kept.{IsNoted, IsKept, place_in, widen}
use Rattle.rexpand.proofs.SharedLemmas.{shared_with_push, shared_alone}
use Rattle.rexpand.proofs.GroupLemmas.{AreGroups, groups_parts, groups_of, groups_none, groups_push, group_below}
use Rattle.rexpand.proofs.EntryLemmas.{length_widened, widened}
use Rattle.rexpand.proofs.NotedLemmas.{noted_none, noted_push}

-- the entries with another group
abbrev pub entries_with : Set → List Set → List Set
entries_with group entries = fold (widen (λ l. l) group) entries (rising group)

-- and the recorded numbers, where that group has the number n
abbrev pub noted_with : ℕ → Set → List Set → List Set
noted_with n group noted = fold (widen (place_in (n / RESOURCES)) (insert empty (n % RESOURCES))) noted (rising group)

-- with another group, the entries of its members get it, and its number is recorded there
pub kept_push : (groups entries noted : List Set) (group : Set) → IsKept groups entries noted → is_group (length entries) group ≡ true → length groups < GROUPS → IsKept (groups ++ group ∷ []) (entries_with group entries) (noted_with (length groups) group noted)
kept_push groups entries noted group kept is room =
    let same : length (entries_with group entries) ≡ length entries = length_widened (λ l. l) group (rising group) entries in
    record {
      valid = ap (λ n. are_groups (record { q = n; groups = groups ++ group ∷ [] })) same ∙ groups_of _ (groups_push (length entries) groups group parts is room);
      each = λ l h. entry l (subst (λ n. l < n) same h);
      numbers = subst (λ n. IsNoted n (groups ++ group ∷ []) (noted_with (length groups) group noted)) (sym same) (noted_push (length entries) groups noted group kept.numbers (group_below (length entries) group is) low room);
    }
  where
    parts : AreGroups (length entries) groups
    parts = groups_parts (record { q = length entries; groups = groups }) kept.valid

    low : all_below RESOURCES group ≡ true
    low = all_below_from RESOURCES group (λ k h.
        let below = all_below_at (length entries) group (group_below (length entries) group is) k h in
        let few = parts.small in
        omega arith)

    entry : (l : ℕ) → l < length entries → get_or (entries_with group entries) l empty ≡ shared_with (groups ++ group ∷ []) l
    entry l h =
        widened (λ l. l) group (rising group) entries l h
        ∙ (λ i. cond (rising_has group low l i) (union (kept.each l h i) group) (kept.each l h i))
        ∙ sym (shared_with_push groups group l)

-- with no groups, the entry of each resource is the resource alone
pub kept_alone : (entries : List Set) → 1 ≤ length entries → length entries ≤ RESOURCES → ((l : ℕ) → l < length entries → get_or entries l empty ≡ insert empty l) → IsKept [] entries (replicate (length entries * BLOCKS) empty)
kept_alone entries some few each = record {
  valid = groups_none (length entries) some few;
  each = λ l h. each l h ∙ sym (shared_alone l);
  numbers = noted_none (length entries);
}

-- equal lists are kept in the same way
pub kept_same : (groups groups' entries entries' noted noted' : List Set) → groups' ≡ groups → entries' ≡ entries → noted' ≡ noted → IsKept groups entries noted → IsKept groups' entries' noted'
kept_same groups groups' entries entries' noted noted' same_groups same_entries same_noted kept =
    subst (λ (gs : List Set). IsKept gs entries' noted') (sym same_groups)
    (subst (λ (es : List Set). IsKept groups es noted') (sym same_entries)
    (subst (λ (ns : List Set). IsKept groups entries ns) (sym same_noted) kept))
