-- Sets whose members are all below a number.
use Rattle.std.proofs.Common.{◌≡◌, ℕ, ◌<◌, ◌==◌, true, nat_lt, sym, subst, ◌∙◌, inl, inr}
use Rattle.std.specs.Ordering.{nat_cmp}
use Rattle.std.specs.FinSet.{empty, contains, insert, remove, union, intersection, difference, is_subset, items}
use Rattle.std.proofs.lemmas.Bool.{eqb-true, ltb-true, lt-ltb, or_cases}
use Rattle.rset.specs.Sets.{Set, all_below}
use Rattle.rset.proofs.SetMembers.{contrary, all_at, all_from, contains_in_items, contains_empty, contains_insert, contains_union}
use Rattle.rset.proofs.SetsWithin.{within_at, intersection_within_left, difference_within, remove_within}

pub all_below_at : (q : ℕ) (s : Set) → all_below q s ≡ true → (l : ℕ) → contains s l ≡ true → l < q
unfolding all_below
all_below_at q s h l a = ltb-true l q (all_at (λ l. nat_lt l q) l (items s) h (sym (contains_in_items s l) ∙ a))

pub all_below_from : (q : ℕ) (s : Set) → ((l : ℕ) → contains s l ≡ true → l < q) → all_below q s ≡ true
unfolding all_below
all_below_from q s each = all_from (λ l. nat_lt l q) (items s) (λ l there. lt-ltb l q (each l (contains_in_items s l ∙ there)))

pub all_below_within : (q : ℕ) (s t : Set) → is_subset s t ≡ true → all_below q t ≡ true → all_below q s ≡ true
all_below_within q s t h b = all_below_from q s (λ l a. all_below_at q t b l (within_at s t h l a))

pub all_below_empty : (q : ℕ) → all_below q (empty {R = nat_cmp}) ≡ true
all_below_empty q = all_below_from q empty (λ l h. contrary _ h (contains_empty l))

pub all_below_union : (q : ℕ) (s t : Set) → all_below q s ≡ true → all_below q t ≡ true → all_below q (union s t) ≡ true
all_below_union q s t a b = all_below_from q (union s t) (λ l h.
    elim (or_cases (contains s l) (contains t l) (sym (contains_union s t l) ∙ h)) [ inl x ↦ all_below_at q s a l x | inr x ↦ all_below_at q t b l x ])

pub all_below_intersection : (q : ℕ) (s t : Set) → all_below q s ≡ true → all_below q (intersection s t) ≡ true
all_below_intersection q s t h = all_below_within q _ s (intersection_within_left s t) h

pub all_below_difference : (q : ℕ) (s t : Set) → all_below q s ≡ true → all_below q (difference s t) ≡ true
all_below_difference q s t h = all_below_within q _ s (difference_within s t) h

pub all_below_insert : (q : ℕ) (s : Set) (k : ℕ) → all_below q s ≡ true → k < q → all_below q (insert s k) ≡ true
all_below_insert q s k h b = all_below_from q (insert s k) (λ l x.
    elim (or_cases (l == k) (contains s l) (sym (contains_insert s k l) ∙ x)) [
      | inl same ↦ subst (λ (n : ℕ). n < q) (sym (eqb-true l k same)) b
      | inr a ↦ all_below_at q s h l a
    ])

pub all_below_remove : (q : ℕ) (s : Set) (k : ℕ) → all_below q s ≡ true → all_below q (remove s k) ≡ true
all_below_remove q s k h = all_below_within q _ s (remove_within s k) h
