-- Sets that meet: a common member and back, and what the operations do to it.
use Rattle.std.proofs.Common.{◌≡◌, ℕ, ◌==◌, ◌||◌, not, true, false, refl, sym, ap, ◌∙◌, inl, inr}
use Rattle.std.specs.Ordering.{nat_cmp}
use Rattle.std.specs.FinSet.{empty, contains, insert, union, intersection, difference, is_subset, items}
use Rattle.std.proofs.lemmas.Bool.{eqb-true, eq-eqb, or_cases, or_left, or_right, and_parts, and_from, not-true, false_from_ne_true}
use Rattle.rset.specs.Sets.{Set, meets}
use Rattle.rset.proofs.SetMembers.{same_test, contrary, passing, passes_at, contains_in_items, empty_from_none, contains_empty, contains_insert, contains_union, contains_intersection, contains_difference}
use Rattle.rset.proofs.SetsWithin.{within_at, within_from, within_both, empty_within, within_union_left, within_union_right, difference_within, within_insert}

-- a common member makes two sets meet
pub meets_from : (s t : Set) (l : ℕ) → contains s l ≡ true → contains t l ≡ true → meets s t ≡ true
unfolding meets
meets_from s t l a b = passes_at (contains t) l b (items s) (sym (contains_in_items s l) ∙ a)

-- two sets that meet have a common member
pub meets_common : (s t : Set) → meets s t ≡ true → (l : ℕ) × (contains s l ≡ true) × (contains t l ≡ true)
unfolding meets
meets_common s t h = let found = passing (contains t) (items s) h in (found.0, contains_in_items s found.0 ∙ found.2, found.1)

-- two sets do not meet where no member of the first is one of the second
pub apart_from : (s t : Set) → ((l : ℕ) → contains s l ≡ true → contains t l ≡ false) → meets s t ≡ false
apart_from s t each =
    false_from_ne_true (meets s t) (λ h. let both = meets_common s t h in contrary _ both.2 (each both.0 both.1))

-- and then no member of the first is one of the second
pub apart_at : (s t : Set) → meets s t ≡ false → (l : ℕ) → contains s l ≡ true → contains t l ≡ false
apart_at s t h l a = false_from_ne_true (contains t l) (λ b. contrary _ (meets_from s t l a b) h)

pub meets_symmetric : (s t : Set) → meets s t ≡ meets t s
meets_symmetric s t = same_test _ _ (turn s t) (turn t s)
  where
    turn : (s t : Set) → meets s t ≡ true → meets t s ≡ true
    turn s t h = let both = meets_common s t h in meets_from t s both.0 both.2 both.1

pub meets_within_left : (s t u : Set) → is_subset s t ≡ true → meets s u ≡ true → meets t u ≡ true
meets_within_left s t u h m = let both = meets_common s u m in meets_from t u both.0 (within_at s t h both.0 both.1) both.2

pub meets_within_right : (s t u : Set) → is_subset t u ≡ true → meets s t ≡ true → meets s u ≡ true
meets_within_right s t u h m = let both = meets_common s t m in meets_from s u both.0 both.1 (within_at t u h both.0 both.2)

pub apart_within_left : (s t u : Set) → is_subset s t ≡ true → meets t u ≡ false → meets s u ≡ false
apart_within_left s t u h m = false_from_ne_true (meets s u) (λ x. contrary _ (meets_within_left s t u h x) m)

pub apart_within_right : (s t u : Set) → is_subset t u ≡ true → meets s u ≡ false → meets s t ≡ false
apart_within_right s t u h m = false_from_ne_true (meets s t) (λ x. contrary _ (meets_within_right s t u h x) m)

pub meets_empty_left : (s : Set) → meets (empty {R = nat_cmp}) s ≡ false
meets_empty_left s = apart_from empty s (λ l h. contrary _ h (contains_empty l))

pub meets_empty_right : (s : Set) → meets s (empty {R = nat_cmp}) ≡ false
meets_empty_right s = apart_from s empty (λ l h. contains_empty l)

pub meets_union_right : (s t u : Set) → meets s (union t u) ≡ (meets s t || meets s u)
meets_union_right s t u = same_test _ _
    (λ h. let both = meets_common s (union t u) h in
    elim (or_cases (contains t both.0) (contains u both.0) (sym (contains_union t u both.0) ∙ both.2)) [
      | inl x ↦ or_left _ _ (meets_from s t both.0 both.1 x)
      | inr x ↦ or_right _ _ (meets_from s u both.0 both.1 x)
    ])
    (λ h. elim (or_cases (meets s t) (meets s u) h) [
      | inl x ↦ meets_within_right s t (union t u) (within_union_left t u) x
      | inr x ↦ meets_within_right s u (union t u) (within_union_right t u) x
    ])

pub meets_union_left : (s t u : Set) → meets (union s t) u ≡ (meets s u || meets t u)
meets_union_left s t u =
    meets_symmetric (union s t) u ∙ meets_union_right u s t ∙ (λ i. meets_symmetric u s i || meets_symmetric u t i)

pub meets_insert_right : (s t : Set) (k : ℕ) → meets s (insert t k) ≡ (contains s k || meets s t)
meets_insert_right s t k = same_test _ _
    (λ h. let both = meets_common s (insert t k) h in
    elim (or_cases (both.0 == k) (contains t both.0) (sym (contains_insert t k both.0) ∙ both.2)) [
      | inl same ↦ or_left _ _ (ap (contains s) (sym (eqb-true both.0 k same)) ∙ both.1)
      | inr x ↦ or_right _ _ (meets_from s t both.0 both.1 x)
    ])
    (λ h. elim (or_cases (contains s k) (meets s t) h) [
      | inl x ↦ meets_from s (insert t k) k x (contains_insert t k k ∙ or_left _ _ (eq-eqb k k refl))
      | inr x ↦ meets_within_right s t (insert t k) (within_insert t k) x
    ])

pub meets_insert_left : (s t : Set) (k : ℕ) → meets (insert s k) t ≡ (contains t k || meets s t)
meets_insert_left s t k =
    meets_symmetric (insert s k) t ∙ meets_insert_right t s k ∙ ap (λ b. contains t k || b) (meets_symmetric t s)

-- what is left of a set does not meet what was taken from it
pub difference_apart : (s t : Set) → meets (difference s t) t ≡ false
difference_apart s t =
    apart_from (difference s t) t (λ l h. not-true (contains t l) ((and_parts _ _ (sym (contains_difference s t l) ∙ h)).1))

-- a set that is apart from another loses nothing with it
pub difference_of_apart : (s t : Set) → meets s t ≡ false → difference s t ≡ s
difference_of_apart s t h = within_both _ _ (difference_within s t)
    (within_from s (difference s t) (λ l x. contains_difference s t l ∙ and_from _ _ x (ap not (apart_at s t h l x))))

-- two sets meet unless nothing is in both
pub meets_by_intersection : (s t : Set) → meets s t ≡ false → intersection s t ≡ empty
meets_by_intersection s t h = empty_within (intersection s t)
    (within_from (intersection s t) empty (λ l x.
    let parts = and_parts _ _ (sym (contains_intersection s t l) ∙ x) in contrary _ parts.1 (apart_at s t h l parts.0)))

pub apart_by_intersection : (s t : Set) → intersection s t ≡ empty → meets s t ≡ false
apart_by_intersection s t h = false_from_ne_true (meets s t) (λ m.
    let both = meets_common s t m in
    contrary _ (contains_intersection s t both.0 ∙ and_from _ _ both.1 both.2) (ap (λ x. contains x both.0) h ∙ contains_empty both.0))

-- a set that does not meet itself is empty
pub meets_itself : (s : Set) → meets s s ≡ false → s ≡ empty
meets_itself s h = empty_from_none s (λ l. false_from_ne_true (contains s l) (λ there. contrary _ there (apart_at s s h l there)))
