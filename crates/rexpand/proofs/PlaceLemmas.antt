-- The places of a claim: their members, and how they grow with what is read, what is written and the groups.
use Rattle.std.proofs.Common.{◌≡◌, ◌⊎◌, ℕ, ◌||◌, Bool, true, false, List, [], ◌∷◌, ◌++◌, fold, refl, sym, ap, ◌∙◌, inl, inr}
use Rattle.std.specs.List.{list_any, list_all}
use Rattle.std.specs.FinSet.{empty, contains, union, is_subset, items}
use Rattle.std.proofs.lemmas.Bool.{or_cases, or_left, or_right}
use Rattle.rset.specs.declared.TheConstants.{RESOURCES}
use Rattle.rset.specs.Sets.{Set, all_below, meets, rising}
use Rattle.rset.proofs.SetLemmas.{same_test, same_members, contains_union, contains_in_items, within_at, within_from, within_both, meets_from, meets_common, meets_empty_left, meets_insert_right, meets_empty_right, apart_at, all_below_at, all_below_from, rising_has}
use Rattle.rset.proofs.SetMembers.{passing, passes_at}
use Rattle.rexpand.specs.Groups.{shared_with, places_of, is_group}
use Rattle.rexpand.proofs.SharedLemmas.{shared_alone, shared_symmetric, shared_itself, shared_persists, shared_grows, shared_below}

-- ---- members

or_groups : (a b c : Bool) → ((a || b) || c) ≡ (a || (b || c))
or_groups true b c = refl
or_groups false b c = refl

or_nothing : (a : Bool) → (a || false) ≡ a
or_nothing true = refl
or_nothing false = refl

-- a member of the union of a set and of one set for each number of a list
pub contains_fold : (f : ℕ → Set) (xs : List ℕ) (s : Set) (k : ℕ) → contains (fold (λ t l. union t (f l)) s xs) k ≡ (contains s k || list_any (λ l. contains (f l) k) xs)
contains_fold f [] s k = sym (or_nothing (contains s k))
contains_fold f (x ∷ xs) s k =
    contains_fold f xs (union s (f x)) k ∙ ap (λ b. b || list_any (λ l. contains (f l) k) xs) (contains_union s (f x) k)
    ∙ or_groups (contains s k) (contains (f x) k) (list_any (λ l. contains (f l) k) xs)

-- the same union is made in rising order
pub places_by_rising : (groups : List Set) (reads writes : Set) → all_below RESOURCES writes ≡ true → fold (λ places l. union places (shared_with groups l)) reads (rising writes) ≡ places_of groups reads writes
unfolding places_of
places_by_rising groups reads writes h = same_members _ _ (λ k.
    contains_fold (shared_with groups) (rising writes) reads k ∙ ap (λ b. contains reads k || b) (same_any k)
    ∙ sym (contains_fold (shared_with groups) (items writes) reads k))
  where
    same_any : (k : ℕ) → list_any (λ l. contains (shared_with groups l) k) (rising writes) ≡ list_any (λ l. contains (shared_with groups l) k) (items writes)
    same_any k = same_test _ _
        (λ some. let found = passing (λ l. contains (shared_with groups l) k) (rising writes) some in
        passes_at (λ l. contains (shared_with groups l) k) found.0 found.1 (items writes) (sym (contains_in_items writes found.0) ∙ sym (rising_has writes h found.0) ∙ found.2))
        (λ some. let found = passing (λ l. contains (shared_with groups l) k) (items writes) some in
        passes_at (λ l. contains (shared_with groups l) k) found.0 found.1 (rising writes) (rising_has writes h found.0 ∙ contains_in_items writes found.0 ∙ found.2))

-- a place is read, or some resource that is written is shared with it
pub contains-places_of : (groups : List Set) (reads writes : Set) (k : ℕ) → contains (places_of groups reads writes) k ≡ (contains reads k || meets writes (shared_with groups k))
unfolding places_of meets
contains-places_of groups reads writes k =
    contains_fold (shared_with groups) (items writes) reads k
    ∙ (λ i. contains reads k || list_any (λ l. shared_symmetric groups l k i) (items writes))

-- what is read is a place
pub place_by_read : (groups : List Set) (reads writes : Set) (k : ℕ) → contains reads k ≡ true → contains (places_of groups reads writes) k ≡ true
place_by_read groups reads writes k h = contains-places_of groups reads writes k ∙ or_left _ _ h

-- what is shared with a resource that is written is a place
pub place_by_write : (groups : List Set) (reads writes : Set) (l k : ℕ) → contains writes l ≡ true → contains (shared_with groups l) k ≡ true → contains (places_of groups reads writes) k ≡ true
place_by_write groups reads writes l k written shared =
    contains-places_of groups reads writes k ∙ or_right _ _ (meets_from writes (shared_with groups k) l written (sym (shared_symmetric groups l k) ∙ shared))

-- why a place is one
pub record IsSharedWith (groups : List Set) (writes : Set) (k : ℕ) : Type 0 where
  pub resource : ℕ
  pub written : contains writes resource ≡ true
  pub shared : contains (shared_with groups resource) k ≡ true

pub place_cases : (groups : List Set) (reads writes : Set) (k : ℕ) → contains (places_of groups reads writes) k ≡ true → (contains reads k ≡ true) ⊎ IsSharedWith groups writes k
place_cases groups reads writes k h =
    elim (or_cases (contains reads k) (meets writes (shared_with groups k)) (sym (contains-places_of groups reads writes k) ∙ h)) [
      | inl read ↦ inl read
      | inr some ↦
          let both = meets_common writes (shared_with groups k) some in
          inr (record { resource = both.0; written = both.1; shared = shared_symmetric groups both.0 k ∙ both.2 })
    ]

-- ---- what lies within the places

pub reads_within_places : (groups : List Set) (reads writes : Set) → is_subset reads (places_of groups reads writes) ≡ true
reads_within_places groups reads writes = within_from _ _ (λ k h. place_by_read groups reads writes k h)

pub writes_within_places : (groups : List Set) (reads writes : Set) → is_subset writes (places_of groups reads writes) ≡ true
writes_within_places groups reads writes = within_from _ _ (λ k h. place_by_write groups reads writes k k h (shared_itself groups k))

pub shared_within_places : (groups : List Set) (reads writes : Set) (l : ℕ) → contains writes l ≡ true → is_subset (shared_with groups l) (places_of groups reads writes) ≡ true
shared_within_places groups reads writes l written = within_from _ _ (λ k h. place_by_write groups reads writes l k written h)

-- ---- more reads, writes and groups

pub places_more_reads : (groups : List Set) (reads more writes : Set) → is_subset reads more ≡ true → is_subset (places_of groups reads writes) (places_of groups more writes) ≡ true
places_more_reads groups reads more writes within = within_from _ _ (λ k h. elim (place_cases groups reads writes k h) [
  | inl read ↦ place_by_read groups more writes k (within_at reads more within k read)
  | inr by ↦ place_by_write groups more writes by.resource k by.written by.shared
])

pub places_more_writes : (groups : List Set) (reads writes more : Set) → is_subset writes more ≡ true → is_subset (places_of groups reads writes) (places_of groups reads more) ≡ true
places_more_writes groups reads writes more within = within_from _ _ (λ k h. elim (place_cases groups reads writes k h) [
  | inl read ↦ place_by_read groups reads more k read
  | inr by ↦ place_by_write groups reads more by.resource k (within_at writes more within by.resource by.written) by.shared
])

pub places_more_groups : (groups more : List Set) (reads writes : Set) → is_subset (places_of groups reads writes) (places_of (groups ++ more) reads writes) ≡ true
places_more_groups groups more reads writes = within_from _ _ (λ k h. elim (place_cases groups reads writes k h) [
  | inl read ↦ place_by_read (groups ++ more) reads writes k read
  | inr by ↦
      place_by_write (groups ++ more) reads writes by.resource k by.written
      (within_at _ _ (shared_grows groups more by.resource) k by.shared)
])

-- a group that misses what is written changes no place
pub places_persist : (groups : List Set) (group reads writes : Set) → meets writes group ≡ false → places_of (groups ++ group ∷ []) reads writes ≡ places_of groups reads writes
places_persist groups group reads writes apart = within_both _ _
    (within_from _ _ (λ k h. elim (place_cases (groups ++ group ∷ []) reads writes k h) [
      | inl read ↦ place_by_read groups reads writes k read
      | inr by ↦
          place_by_write groups reads writes by.resource k by.written
          (ap (λ s. contains s k) (sym (shared_persists groups group by.resource (apart_at writes group apart by.resource by.written))) ∙ by.shared)
    ]))
    (places_more_groups groups (group ∷ []) reads writes)

-- ---- no writes, no groups

-- the places of a claim that writes nothing are what it reads
pub places_of_reads : (groups : List Set) (reads : Set) → places_of groups reads empty ≡ reads
places_of_reads groups reads = same_members _ _ (λ k.
    contains-places_of groups reads empty k ∙ ap (λ b. contains reads k || b) (meets_empty_left (shared_with groups k)) ∙ or_nothing (contains reads k))

-- with no group declared they are what it reads and what it writes
pub places_without_groups : (reads writes : Set) → places_of [] reads writes ≡ union reads writes
places_without_groups reads writes = same_members _ _ (λ k.
    contains-places_of [] reads writes k
    ∙ ap (λ b. contains reads k || b) (ap (meets writes) (shared_alone k) ∙ meets_insert_right writes empty k ∙ ap (λ b. contains writes k || b) (meets_empty_right writes) ∙ or_nothing (contains writes k))
    ∙ sym (contains_union reads writes k))

-- ---- below q

pub places_below : (q : ℕ) (groups : List Set) (reads writes : Set) → list_all (is_group q) groups ≡ true → all_below q reads ≡ true → all_below q writes ≡ true → all_below q (places_of groups reads writes) ≡ true
places_below q groups reads writes each low_reads low_writes = all_below_from q _ (λ k h. elim (place_cases groups reads writes k h) [
  | inl read ↦ all_below_at q reads low_reads k read
  | inr by ↦
      all_below_at q (shared_with groups by.resource) (shared_below q groups by.resource each (all_below_at q writes low_writes by.resource by.written)) k by.shared
])
