-- Sets within each other (`is_subset`), and their union, intersection and difference.
use Rattle.std.proofs.Common.{◌≡◌, ℕ, ◌==◌, ◌&&◌, ◌||◌, not, Bool, true, false, refl, sym, ap, ◌∙◌, inl, inr}
use Rattle.std.specs.Ordering.{nat_cmp}
use Rattle.std.specs.Cmp.{nat_cmp_total}
use Rattle.std.specs.FinSet.{empty, contains, insert, remove, union, intersection, difference, is_subset, is_subset-contains, contains-is_subset}
use Rattle.std.proofs.lemmas.Bool.{eqb-true, or_cases, or_left, or_right, and_parts, and_from, not-true, true_from_ne_false}
use Rattle.rset.specs.Sets.{Set}
use Rattle.rset.proofs.SetMembers.{same_test, contrary, same_members, contains_empty, contains_insert, contains_remove, contains_union, contains_intersection, contains_difference}

pub within_at : (s t : Set) → is_subset s t ≡ true → (l : ℕ) → contains s l ≡ true → contains t l ≡ true
within_at = is_subset-contains nat_cmp_total

pub within_from : (s t : Set) → ((l : ℕ) → contains s l ≡ true → contains t l ≡ true) → is_subset s t ≡ true
within_from = contains-is_subset nat_cmp_total

pub within_reflexive : (s : Set) → is_subset s s ≡ true
within_reflexive s = within_from s s (λ l h. h)

pub within_transitive : (s t u : Set) → is_subset s t ≡ true → is_subset t u ≡ true → is_subset s u ≡ true
within_transitive s t u a b = within_from s u (λ l h. within_at t u b l (within_at s t a l h))

-- two sets within each other are equal
pub within_both : (s t : Set) → is_subset s t ≡ true → is_subset t s ≡ true → s ≡ t
within_both s t a b = same_members s t (λ l. same_test _ _ (within_at s t a l) (within_at t s b l))

pub within_empty : (s : Set) → is_subset (empty {R = nat_cmp}) s ≡ true
within_empty s = within_from empty s (λ l h. contrary _ h (contains_empty l))

pub empty_within : (s : Set) → is_subset s (empty {R = nat_cmp}) ≡ true → s ≡ empty
empty_within s h = within_both s empty h (within_empty s)

pub within_union_left : (s t : Set) → is_subset s (union s t) ≡ true
within_union_left s t = within_from s (union s t) (λ l h. contains_union s t l ∙ or_left _ _ h)

pub within_union_right : (s t : Set) → is_subset t (union s t) ≡ true
within_union_right s t = within_from t (union s t) (λ l h. contains_union s t l ∙ or_right _ _ h)

pub union_within : (s t u : Set) → is_subset s u ≡ true → is_subset t u ≡ true → is_subset (union s t) u ≡ true
union_within s t u a b = within_from (union s t) u (λ l h.
    elim (or_cases (contains s l) (contains t l) (sym (contains_union s t l) ∙ h)) [ inl x ↦ within_at s u a l x | inr x ↦ within_at t u b l x ])

-- the union of a set with one within it is that set
pub union_of_within : (s t : Set) → is_subset t s ≡ true → union s t ≡ s
union_of_within s t h = within_both (union s t) s (union_within s t s (within_reflexive s) h) (within_union_left s t)

pub intersection_within_left : (s t : Set) → is_subset (intersection s t) s ≡ true
intersection_within_left s t = within_from (intersection s t) s (λ l h. (and_parts _ _ (sym (contains_intersection s t l) ∙ h)).0)

pub intersection_within_right : (s t : Set) → is_subset (intersection s t) t ≡ true
intersection_within_right s t = within_from (intersection s t) t (λ l h. (and_parts _ _ (sym (contains_intersection s t l) ∙ h)).1)

pub within_intersection : (s t u : Set) → is_subset u s ≡ true → is_subset u t ≡ true → is_subset u (intersection s t) ≡ true
within_intersection s t u a b =
    within_from u (intersection s t) (λ l h. contains_intersection s t l ∙ and_from _ _ (within_at u s a l h) (within_at u t b l h))

pub difference_within : (s t : Set) → is_subset (difference s t) s ≡ true
difference_within s t = within_from (difference s t) s (λ l h. (and_parts _ _ (sym (contains_difference s t l) ∙ h)).0)

pub within_insert : (s : Set) (k : ℕ) → is_subset s (insert s k) ≡ true
within_insert s k = within_from s (insert s k) (λ l h. contains_insert s k l ∙ or_right _ _ h)

pub insert_within : (s t : Set) (k : ℕ) → is_subset s t ≡ true → contains t k ≡ true → is_subset (insert s k) t ≡ true
insert_within s t k a b = within_from (insert s k) t (λ l h.
    elim (or_cases (l == k) (contains s l) (sym (contains_insert s k l) ∙ h)) [
      | inl same ↦ ap (contains t) (eqb-true l k same) ∙ b
      | inr x ↦ within_at s t a l x
    ])

pub remove_within : (s : Set) (k : ℕ) → is_subset (remove s k) s ≡ true
remove_within s k = within_from (remove s k) s (λ l h. (and_parts _ _ (sym (contains_remove s k l) ∙ h)).1)

-- ---- union, intersection, difference

or_swaps : (a b : Bool) → (a || b) ≡ (b || a)
or_swaps true true = refl
or_swaps true false = refl
or_swaps false true = refl
or_swaps false false = refl

or_groups : (a b c : Bool) → ((a || b) || c) ≡ (a || (b || c))
or_groups true b c = refl
or_groups false b c = refl

and_swaps : (a b : Bool) → (a && b) ≡ (b && a)
and_swaps true true = refl
and_swaps true false = refl
and_swaps false true = refl
and_swaps false false = refl

pub union_symmetric : (s t : Set) → union s t ≡ union t s
union_symmetric s t = same_members _ _ (λ l. contains_union s t l ∙ or_swaps (contains s l) (contains t l) ∙ sym (contains_union t s l))

pub union_associative : (s t u : Set) → union (union s t) u ≡ union s (union t u)
union_associative s t u = same_members _ _ (λ l.
    contains_union (union s t) u l ∙ ap (λ b. b || contains u l) (contains_union s t l) ∙ or_groups (contains s l) (contains t l) (contains u l)
    ∙ ap (λ b. contains s l || b) (sym (contains_union t u l)) ∙ sym (contains_union s (union t u) l))

pub union_empty_left : (s : Set) → union (empty {R = nat_cmp}) s ≡ s
union_empty_left s = same_members _ _ (λ l. contains_union empty s l ∙ ap (λ b. b || contains s l) (contains_empty l))

pub union_empty_right : (s : Set) → union s (empty {R = nat_cmp}) ≡ s
union_empty_right s = union_symmetric s empty ∙ union_empty_left s

pub union_same : (s : Set) → union s s ≡ s
union_same s = union_of_within s s (within_reflexive s)

pub intersection_symmetric : (s t : Set) → intersection s t ≡ intersection t s
intersection_symmetric s t = same_members _ _ (λ l.
    contains_intersection s t l ∙ and_swaps (contains s l) (contains t l) ∙ sym (contains_intersection t s l))

-- a member that is taken out and put back
pub insert_there : (s : Set) (k : ℕ) → contains s k ≡ true → insert s k ≡ s
insert_there s k h = within_both _ _ (insert_within s s k (within_reflexive s) h) (within_insert s k)

-- a set is within another where nothing is left without it
pub within_by_difference : (s t : Set) → difference s t ≡ empty → is_subset s t ≡ true
within_by_difference s t e = within_from s t (λ l h. true_from_ne_false (contains t l) (λ out.
    contrary _ (contains_difference s t l ∙ and_from _ _ h (ap not out)) (ap (λ x. contains x l) e ∙ contains_empty l)))

pub difference_by_within : (s t : Set) → is_subset s t ≡ true → difference s t ≡ empty
difference_by_within s t h = empty_within (difference s t)
    (within_from (difference s t) empty (λ l x.
    let parts = and_parts _ _ (sym (contains_difference s t l) ∙ x) in
    contrary _ (within_at s t h l parts.0) (not-true (contains t l) parts.1)))
