-- The requests that are drawn may be issued.
use Rattle.std.proofs.Common.{◌≡◌, ℕ, ◌+◌, ◌<◌, ◌==◌, true, false, not, ◌&&◌, ◌||◌, refl, ap, ◌∙◌, arith}
use Rattle.std.proofs.lemmas.Bool.{eqb-true}
use Rattle.std.specs.Ordering.{nat_cmp}
use Rattle.std.specs.FinSet.{empty, contains, union, is_subset, difference}
use Rattle.rset.specs.Sets.{Set, all_below}
use Rattle.rset.proofs.SetLemmas.{contains_insert, contains_empty, contains_difference, filled_by, within_transitive, within_union_right, difference_apart, difference_within, all_below_empty, all_below_difference}
use Rattle.rexpand.proofs.DeclaredLemmas.{some_members}
use Rattle.rclaim.specs.Requests.{RequestFields, IsNormal, is_part}
use Rattle.rclaim.specs.declared.request.Kind.{Kind}
use Rattle.rclaim.specs.declared.request.Kind.TheVariants.{Read, Write, Mixed, Upgrade, Nested}
use Rattle.rmodel.specs.Claims.{is_admitted}
use Rattle.rmodel.proofs.ListFacts.{false_from}
use Rattle.rdrill.specs.Draws.{one, pair, request_for, drill_groups}
use Rattle.rdrill.proofs.Sets.{pair_has_next, one_some, pair_some, one_below, pair_below, pair_declared, within_pair}

no_next : (l : ℕ) → l + 1 ≡ l → ⊥
no_next l h = omega (arith, h)

one_has_not : (l : ℕ) → contains (one l) (l + 1) ≡ false
one_has_not l =
    contains_insert empty l (l + 1) ∙ ap (λ b. b || contains (empty {R = nat_cmp}) (l + 1)) (false_from (l + 1 == l) (λ h. no_next l (eqb-true (l + 1) l h))) ∙ contains_empty (l + 1)

-- a request that may be drawn
pub record IsDrawn (r : RequestFields) : Type 0 where
  pub kind : Kind
  pub l : ℕ
  pub small : l < 7
  pub is : r ≡ request_for kind l

module _ (l : ℕ) (small : l < 7) where
  pub drawn_reads : (k : Kind) → all_below 8 (request_for k l).reads ≡ true
  drawn_reads Read = pair_below l small
  drawn_reads Write = all_below_empty 8
  drawn_reads Mixed = all_below_difference 8 (one (l + 1)) (one l) (one_below (l + 1) (omega (arith, small)))
  drawn_reads Upgrade = pair_below l small
  drawn_reads Nested = all_below_difference 8 empty (pair l) (all_below_empty 8)

  pub drawn_writes : (k : Kind) → all_below 8 (request_for k l).writes ≡ true
  drawn_writes Read = all_below_empty 8
  drawn_writes Write = one_below l (omega (arith, small))
  drawn_writes Mixed = one_below l (omega (arith, small))
  drawn_writes Upgrade = all_below_empty 8
  drawn_writes Nested = pair_below l small

  pub drawn_admitted : (k : Kind) → is_admitted drill_groups.groups (request_for k l) ≡ true
  drawn_admitted Read = pair_declared l small
  drawn_admitted Write = refl
  drawn_admitted Mixed = refl
  drawn_admitted Upgrade = pair_declared l small
  drawn_admitted Nested = refl

  pub drawn_normal : (k : Kind) → IsNormal (request_for k l)
  drawn_normal Read = record { sets = (pair_some l, refl); first = refl; len = omega arith; later = refl }
  drawn_normal Write = record { sets = (refl, one_some l); first = refl; len = omega arith; later = refl }
  drawn_normal Mixed = record { sets = (difference_apart (one (l + 1)) (one l), one_some l); first = refl; len = omega arith; later = refl }
  drawn_normal Upgrade = record { sets = (pair_some l, refl); first = refl; len = omega arith; later = omega arith }
  drawn_normal Nested =
      record {
        sets = (difference_apart empty (pair l), pair_some l);
        first = ap (λ b. b && is_subset (one l) (union (difference empty (pair l)) (pair l))) (some_members (one l) (one_some l))
            ∙ within_transitive (one l) (pair l) (union (difference empty (pair l)) (pair l)) (within_pair l) (within_union_right (difference empty (pair l)) (pair l));
        len = omega arith;
        later = refl;
      }

  -- what a nested request does not ask for at first
  abbrev rest : Set
  rest = difference (pair l) (one l)

  rest_has : contains rest (l + 1) ≡ true
  rest_has = contains_difference (pair l) (one l) (l + 1) ∙ ap (λ b. b && not (contains (one l) (l + 1))) (pair_has_next l) ∙ ap not (one_has_not l)

  pub rest_below : all_below 8 rest ≡ true
  rest_below = all_below_difference 8 (pair l) (one l) (pair_below l small)

  pub rest_part : (reads : Set) → is_part rest (union reads (pair l)) ≡ true
  rest_part reads =
      ap (λ b. b && is_subset rest (union reads (pair l))) (some_members rest (filled_by rest (l + 1) rest_has))
      ∙ within_transitive rest (pair l) (union reads (pair l)) (difference_within (pair l) (one l)) (within_union_right reads (pair l))
