-- The test of equality says whether two sets are one, so it is an equivalence.
use Rattle.std.proofs.Common.{◌≡◌, true, subst}
use Rattle.std.specs.Bool.{Decides}
use Rattle.std.specs.Cmp.{IsEquivalence, decided, nat_cmp_total}
use Rattle.std.specs.FinSet.{contains, is_subset, is_subset-contains, contains-is_subset, same_set, nat_cmp-IsAntisymmetric}
use Rattle.std.proofs.lemmas.Bool.{and_parts, and_from}
use Rattle.std.proofs.lemmas.Bool.Decides.{same_from_decides}
use Rattle.rset.specs.Sets.{Set, equals}

-- sets that pass it are equal
pub equals-true : (s t : Set) → equals s t ≡ true → s ≡ t
unfolding equals
equals-true s t h =
    let parts = and_parts (is_subset s t) (is_subset t s) h in
    same_set nat_cmp_total nat_cmp-IsAntisymmetric s t
    (λ l. same_from_decides {P = contains t l ≡ true} (contains s l) (contains t l) (is_subset-contains nat_cmp_total s t parts.0 l, is_subset-contains nat_cmp_total t s parts.1 l) (λ x. x, λ x. x))

-- and each set passes it with itself
pub equals_itself : (s : Set) → equals s s ≡ true
unfolding equals
equals_itself s = let within = contains-is_subset nat_cmp_total s s (λ l x. x) in and_from _ _ within within

pub equals_decides : (s t : Set) → Decides (equals s t) (s ≡ t)
equals_decides s t = (equals-true s t, λ e. subst (λ (x : Set). equals s x ≡ true) e (equals_itself s))

pub equals_equivalence : IsEquivalence equals
equals_equivalence = decided equals equals_decides
