-- The sets that are drawn.
use Rattle.std.proofs.Common.{◌≡◌, ℕ, zero, suc, inl, inr, ◌+◌, ◌<◌, ◌==◌, nat_lt, Bool, true, false, ◌||◌, ◌&&◌, refl, ap, ◌∙◌, arith}
use Rattle.std.proofs.lemmas.Bool.{eq-eqb}
use Rattle.std.specs.FinSet.{empty, contains, len, union, is_subset}
use Rattle.rset.specs.Sets.{all_below}
use Rattle.rset.proofs.SetLemmas.{contains_insert, filled_by, within_transitive, within_union_right, within_reflexive, within_insert, all_below_insert, all_below_empty}
use Rattle.rexpand.specs.Groups.{is_declared, is_inside}
use Rattle.rexpand.proofs.DeclaredLemmas.{some_members}
use Rattle.rclaim.specs.Requests.{is_part}
use Rattle.std.specs.List.{list_any}
use Rattle.rmodel.specs.WellFormed.{Among}
use Rattle.rmodel.proofs.ListFacts.{any_among}
use Rattle.rdrill.specs.Draws.{one, pair, drill_groups}

same : (l : ℕ) → (l == l) ≡ true
same l = eq-eqb l l refl

or_first : (a b : Bool) → a ≡ true → (a || b) ≡ true
or_first a b h = ap (λ x. x || b) h

or_second : (a b : Bool) → b ≡ true → (a || b) ≡ true
or_second true b h = refl
or_second false b h = h

pub one_has : (l : ℕ) → contains (one l) l ≡ true
one_has l = contains_insert empty l l ∙ or_first (l == l) (contains empty l) (same l)

pub pair_has : (l : ℕ) → contains (pair l) l ≡ true
pair_has l = contains_insert (one l) (l + 1) l ∙ or_second (l == l + 1) (contains (one l) l) (one_has l)

pub pair_has_next : (l : ℕ) → contains (pair l) (l + 1) ≡ true
pair_has_next l = contains_insert (one l) (l + 1) (l + 1) ∙ or_first (l + 1 == l + 1) (contains (one l) (l + 1)) (same (l + 1))

pub one_some : (l : ℕ) → one l ≡ empty → ⊥
one_some l = filled_by (one l) l (one_has l)

pub pair_some : (l : ℕ) → pair l ≡ empty → ⊥
pair_some l = filled_by (pair l) l (pair_has l)

pub one_below : (l : ℕ) → l < 8 → all_below 8 (one l) ≡ true
one_below l h = all_below_insert 8 empty l (all_below_empty 8) h

pub pair_below : (l : ℕ) → l < 7 → all_below 8 (pair l) ≡ true
pair_below l h = all_below_insert 8 (one l) (l + 1) (one_below l (omega (arith, h))) (omega (arith, h))

pair_among : (l : ℕ) → l < 7 → Among (pair l) drill_groups.groups
pair_among zero h = inl refl
pair_among (suc zero) h = inr (inl refl)
pair_among (suc (suc zero)) h = inr (inr (inl refl))
pair_among (suc (suc (suc zero))) h = inr (inr (inr (inl refl)))
pair_among (suc (suc (suc (suc zero)))) h = inr (inr (inr (inr (inl refl))))
pair_among (suc (suc (suc (suc (suc zero))))) h = inr (inr (inr (inr (inr (inl refl)))))
pair_among (suc (suc (suc (suc (suc (suc zero)))))) h = inr (inr (inr (inr (inr (inr (inl refl))))))
pair_among (suc (suc (suc (suc (suc (suc (suc l))))))) h = absurd (omega (arith, h))

pub pair_declared : (l : ℕ) → l < 7 → is_declared drill_groups.groups (pair l) ≡ true
unfolding is_declared is_inside
pair_declared l h =
    or_second (len (pair l) == 1) (nat_lt 0 (len (pair l)) && list_any (is_subset (pair l)) drill_groups.groups)
    (ap (λ b. b && list_any (is_subset (pair l)) drill_groups.groups) (some_members (pair l) (pair_some l))
    ∙ any_among (is_subset (pair l)) drill_groups.groups (pair l) (pair_among l h) (within_reflexive (pair l)))

pub within_pair : (l : ℕ) → is_subset (one l) (pair l) ≡ true
within_pair l = within_insert (one l) (l + 1)

-- the first part of a nested request is a part of it
pub one_part : (l : ℕ) → is_part (one l) (union empty (pair l)) ≡ true
one_part l =
    ap (λ b. b && is_subset (one l) (union empty (pair l))) (some_members (one l) (one_some l))
    ∙ within_transitive (one l) (pair l) (union empty (pair l)) (within_insert (one l) (l + 1)) (within_union_right empty (pair l))
