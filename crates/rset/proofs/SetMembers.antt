-- The members of sets, and lists of numbers that a test passes.
use Rattle.std.proofs.Common.{◌≡◌, ℕ, ◌==◌, ◌&&◌, ◌||◌, not, Bool, true, false, List, [], ◌∷◌, refl, sym, ap, ◌∙◌, inl, inr}
use Rattle.std.specs.List.{list_any, list_all}
use Rattle.std.specs.Ordering.{nat_cmp}
use Rattle.std.specs.Cmp.{nat_cmp_total, unsigned_tied, nat_eq_equiv}
use Rattle.std.specs.FinSet.{empty, contains, insert, remove, union, intersection, difference, items, contains-items, contains-empty, contains-insert, contains-remove, contains-union, contains-intersection, contains-difference, same_set, nat_cmp-IsAntisymmetric}
use Rattle.std.proofs.lemmas.Bool.{true≢false, eqb-true, eq-eqb, or_cases, or_left, or_right, and_parts, and_from}
use Rattle.std.proofs.lemmas.Bool.Decides.{same_from_decides}
use Rattle.rset.specs.Sets.{Set}

-- tests that come true together are equal
pub same_test : (a b : Bool) → (a ≡ true → b ≡ true) → (b ≡ true → a ≡ true) → a ≡ b
same_test a b there back = same_from_decides {P = b ≡ true} a b (there, back) (λ h. h, λ h. h)

-- what is not at once true and false
pub contrary : {P : Type 0} → (b : Bool) → b ≡ true → b ≡ false → P
contrary b is not_so = absurd (true≢false (sym is ∙ not_so))

-- ---- lists of numbers

-- an element that passes, of a list where some element does
pub passing : (p : ℕ → Bool) (xs : List ℕ) → list_any p xs ≡ true → (x : ℕ) × (p x ≡ true) × (list_any (λ y. y == x) xs ≡ true)
passing p [] some = contrary true refl (sym some)
passing p (x ∷ xs) some =
    elim (or_cases (p x) (list_any p xs) some) [
      | inl here ↦ (x, here, or_left (x == x) _ (eq-eqb x x refl))
      | inr later ↦ let rest = passing p xs later in (rest.0, rest.1, or_right (x == rest.0) _ rest.2)
    ]

-- some element passes where one that is there does
pub passes_at : (p : ℕ → Bool) (l : ℕ) → p l ≡ true → (xs : List ℕ) → list_any (λ y. y == l) xs ≡ true → list_any p xs ≡ true
passes_at p l pass [] there = there
passes_at p l pass (x ∷ xs) there =
    elim (or_cases (x == l) (list_any (λ y. y == l) xs) there) [
      | inl same ↦ or_left (p x) _ (ap p (eqb-true x l same) ∙ pass)
      | inr later ↦ or_right (p x) _ (passes_at p l pass xs later)
    ]

-- one that is there passes where all do
pub all_at : (p : ℕ → Bool) (l : ℕ) (xs : List ℕ) → list_all p xs ≡ true → list_any (λ y. y == l) xs ≡ true → p l ≡ true
all_at p l [] all there = contrary true refl (sym there)
all_at p l (x ∷ xs) all there =
    let parts = and_parts (p x) (list_all p xs) all in
    elim (or_cases (x == l) (list_any (λ y. y == l) xs) there) [
      | inl same ↦ ap p (sym (eqb-true x l same)) ∙ parts.0
      | inr later ↦ all_at p l xs parts.1 later
    ]

-- all pass where each that is there does
pub all_from : (p : ℕ → Bool) (xs : List ℕ) → ((l : ℕ) → list_any (λ y. y == l) xs ≡ true → p l ≡ true) → list_all p xs ≡ true
all_from p [] each = refl
all_from p (x ∷ xs) each =
    and_from (p x) (list_all p xs) (each x (or_left (x == x) _ (eq-eqb x x refl))) (all_from p xs (λ l later. each l (or_right (x == l) _ later)))

-- ---- members

-- two sets with the same members are equal
pub same_members : (s t : Set) → ((l : ℕ) → contains s l ≡ contains t l) → s ≡ t
same_members s t is = same_set nat_cmp_total nat_cmp-IsAntisymmetric s t is

pub contains_in_items : (s : Set) (l : ℕ) → contains s l ≡ list_any (λ y. y == l) (items s)
contains_in_items s l = contains-items s l ∙ (λ i. list_any (λ y. (unsigned_tied l y ∙ nat_eq_equiv.symm l y) i) (items s))

pub contains_empty : (l : ℕ) → contains (empty {R = nat_cmp}) l ≡ false
contains_empty l = contains-empty nat_cmp l

pub contains_insert : (s : Set) (k l : ℕ) → contains (insert s k) l ≡ ((l == k) || contains s l)
contains_insert s k l = contains-insert nat_cmp_total s k l ∙ ap (λ b. b || contains s l) (unsigned_tied l k)

pub contains_remove : (s : Set) (k l : ℕ) → contains (remove s k) l ≡ (not (l == k) && contains s l)
contains_remove s k l = contains-remove nat_cmp_total s k l ∙ ap (λ b. not b && contains s l) (unsigned_tied l k)

pub contains_union : (s t : Set) (l : ℕ) → contains (union s t) l ≡ (contains s l || contains t l)
contains_union = contains-union nat_cmp_total

pub contains_intersection : (s t : Set) (l : ℕ) → contains (intersection s t) l ≡ (contains s l && contains t l)
contains_intersection = contains-intersection nat_cmp_total

pub contains_difference : (s t : Set) (l : ℕ) → contains (difference s t) l ≡ (contains s l && not (contains t l))
contains_difference = contains-difference nat_cmp_total

-- ---- the empty set

pub empty_from_none : (s : Set) → ((l : ℕ) → contains s l ≡ false) → s ≡ empty
empty_from_none s none = same_members s empty (λ l. none l ∙ sym (contains_empty l))

-- a set that is not empty has a member
pub some_member : (s : Set) → (s ≡ empty → ⊥) → (l : ℕ) × (contains s l ≡ true)
some_member s filled = pick (items s) refl
  where
    none : items s ≡ [] → s ≡ empty
    none e = empty_from_none s (λ l. contains_in_items s l ∙ ap (list_any (λ y. y == l)) e)

    pick : (xs : List ℕ) → items s ≡ xs → (l : ℕ) × (contains s l ≡ true)
    pick [] e = absurd (filled (none e))
    pick (x ∷ xs) e = (x, contains_in_items s x ∙ ap (list_any (λ y. y == x)) e ∙ or_left (x == x) _ (eq-eqb x x refl))

-- a set with a member is not empty
pub filled_by : (s : Set) (l : ℕ) → contains s l ≡ true → s ≡ empty → ⊥
filled_by s l there none = contrary _ there (ap (λ x. contains x l) none ∙ contains_empty l)
