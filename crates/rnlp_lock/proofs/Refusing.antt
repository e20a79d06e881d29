-- Why requests and groups are refused.
use Rattle.std.proofs.Common.{◌≡◌, ℕ, ◌<◌, ◌≤◌, ◌+◌, ◌==◌, Bool, true, false, ◌&&◌, ◌||◌, List, length, take, nat_lt, nat_le, arith, refl, sym, ap, ◌∙◌, inl, inr}
use Rattle.std.proofs.lemmas.Bool.{true≢false, eq-eqb, leb-true}
use Rattle.std.proofs.lemmas.List.{length-take-le}
use Rattle.std.proofs.lemmas.List.Folds.{list_all_at}
use Rattle.std.proofs.Math.ListN.{get_or}
use Rattle.std.specs.FinSet.{empty, contains, insert, is_subset, len, len-empty}
use Rattle.std.specs.List.{list_all}
use Rattle.std.specs.Ordering.{nat_cmp}
use Rattle.rset.specs.Sets.{Set, all_below}
use Rattle.rset.specs.declared.TheConstants.{RESOURCES}
use Rattle.rexpand.specs.Groups.{ReadGroups, is_group, are_groups}
use Rattle.rexpand.specs.declared.TheConstants.{GROUPS}
use Rattle.rset.proofs.SetMembers.{contains_insert}
use Rattle.rset.proofs.SetsBelow.{all_below_at}
use Rattle.rset.proofs.SetsWithin.{within_from}
use Rattle.rnlp_lock.specs.Causes.{HasAll, StopsGroup, StopsGroups}
use Rattle.rnlp_lock.specs.declared.lock.LockErr.{LockErr}
use Rattle.rnlp_lock.specs.declared.lock.LockErr.TheVariants as lock

-- there is no resource below 0
pub has_none : (all : Set) → HasAll 0 all
has_none all l less = absurd (omega (arith, less))

-- one resource more
pub has_one_more : (k : ℕ) (all : Set) → HasAll k all → HasAll (k + 1) (insert all k)
has_one_more k all has l less = at (l == k) refl
  where
    at : (b : Bool) → (l == k) ≡ b → contains (insert all k) l ≡ true
    at true same = contains_insert all k l ∙ ap (λ (b : Bool). b || contains all l) same
    at false other = contains_insert all k l ∙ ap (λ (b : Bool). b || contains all l) other ∙ has l (omega (arith, less, apart))
      where
        apart : l ≡ k → ⊥
        apart is = true≢false (sym (eq-eqb l k is) ∙ other)

-- what is not within all resources has a member that is none
pub outside : (q : ℕ) (all set : Set) → HasAll q all → is_subset set all ≡ false → all_below q set ≡ false
outside q all set has out = at (all_below q set) refl
  where
    at : (b : Bool) → all_below q set ≡ b → all_below q set ≡ false
    at false is = is
    at true is = absurd (true≢false (sym (within_from set all (λ l there. has l (all_below_at q set is l there))) ∙ out))

-- no resource at or above the limit of a set is in it
pub over : (place : ℕ) (set : Set) (limit : ℕ) → all_below limit set ≡ true → limit ≤ place → contains set place ≡ true → ⊥
over place set limit below high there = omega (arith, high, (all_below_at limit set below place there))

-- ---- groups

-- a set with a member that is none is no group
pub no_group_beyond : (q : ℕ) (set : Set) → all_below q set ≡ false → is_group q set ≡ false
unfolding is_group
no_group_beyond q set out = ap (λ (b : Bool). nat_lt 0 (len set) && b) out ∙ and_false (nat_lt 0 (len set))
  where
    and_false : (b : Bool) → (b && false) ≡ false
    and_false true = refl
    and_false false = refl

-- nor is one without members
pub no_group_empty : (q : ℕ) (set : Set) → set ≡ empty → is_group q set ≡ false
unfolding is_group
no_group_empty q set none = ap (λ (n : ℕ). nat_lt 0 n && all_below q set) (ap (λ (s : Set). len s) none ∙ len-empty nat_cmp)

-- where one of the sets is no group, they are no groups
pub no_groups_at : (q : ℕ) (sets : List Set) (i : ℕ) (set : Set) → i < length sets → get_or sets i set ≡ set → is_group q set ≡ false → are_groups (record { q = q; groups = sets }) ≡ false
unfolding are_groups
no_groups_at q sets i set within at none =
    let some : list_all (is_group q) sets ≡ false = list_all_at (is_group q) sets i set within (ap (is_group q) at ∙ none) in
    ap (λ (b : Bool). nat_le 1 q && nat_le q RESOURCES && nat_le (length sets) GROUPS && b) some
    ∙ last (nat_le 1 q) (nat_le q RESOURCES) (nat_le (length sets) GROUPS)
  where
    last : (a b c : Bool) → (a && b && c && false) ≡ false
    last true true true = refl
    last true true false = refl
    last true false c = refl
    last false b c = refl

-- where there are too many, too
pub no_groups_over : (q : ℕ) (sets : List Set) → GROUPS < length sets → are_groups (record { q = q; groups = sets }) ≡ false
unfolding are_groups
no_groups_over q sets many = ap (λ (b : Bool). nat_le 1 q && nat_le q RESOURCES && b && list_all (is_group q) sets) (over_limit (nat_le (length sets) GROUPS) refl) ∙ third (nat_le 1 q) (nat_le q RESOURCES) (list_all (is_group q) sets)
  where
    over_limit : (b : Bool) → nat_le (length sets) GROUPS ≡ b → b ≡ false
    over_limit false is = refl
    over_limit true is = absurd (omega (arith, many, leb-true (length sets) GROUPS is))

    third : (a b d : Bool) → (a && b && false && d) ≡ false
    third true true d = refl
    third true false d = refl
    third false b d = refl

-- why one more of the sets was not declared is why they are no groups
pub not_declared : (q : ℕ) (groups : ReadGroups) (sets : List Set) (i : ℕ) (set : Set) (e : LockErr) → i < length sets → get_or sets i set ≡ set → groups ≡ record { q = q; groups = take i sets } → StopsGroup groups set e
    → StopsGroups (record { q = q; groups = sets }) e
not_declared q groups sets i set lock.Groups within at so_far (inl none) = no_groups_at q sets i set within at (no_group_empty q set none)
not_declared q groups sets i set lock.Groups within at so_far (inr full) =
    no_groups_over q sets (omega (arith, within, sym full ∙ ap (λ (g : ReadGroups). length g.groups) so_far ∙ length-take-le i sets (omega (arith, within))))
not_declared q groups sets i set lock.NoMemory within at so_far h = tt
not_declared q groups sets i set lock.Values within at so_far h = h
not_declared q groups sets i set lock.Seats within at so_far h = h
