-- The normal form of a request is in normal form.
use Rattle.std.proofs.Common.{◌≡◌, ◌≢◌, ℕ, ◌≤◌, Bool, true, false, not, ◌&&◌, ◌||◌, refl, sym, ap, ◌∙◌}
use Rattle.std.specs.FinSet.{empty, contains, union, difference}
use Rattle.rset.specs.Sets.{Set}
use Rattle.rset.proofs.SetLemmas.{same_members, contains_union, contains_difference, difference_apart}
use Rattle.rclaim.specs.Requests.{IsNormal, asked_set, first_fits, is_part, normalised}
use Rattle.rclaim.specs.declared.request.Kind.{Kind}
use Rattle.rclaim.specs.declared.request.Kind.TheVariants.{Read, Write, Mixed, Upgrade, Nested}
use Rattle.rclaim.specs.declared.TheConstants.{LENGTH_LIMIT}

either : (a b : Bool) → ((a && not b) || b) ≡ (a || b)
either true true = refl
either true false = refl
either false b = refl

-- what a request reads and writes together is the same before and after its reads lose what it writes
pub union_difference : (r w : Set) → union (difference r w) w ≡ union r w
union_difference r w =
    same_members (union (difference r w) w) (union r w)
    (λ l. contains_union (difference r w) w l ∙ ap (λ b. b || contains w l) (contains_difference r w l) ∙ either (contains r l) (contains w l) ∙ sym (contains_union r w l))

pub is_normal : (k : Kind) (reads writes first : Set) (len later : ℕ) → asked_set k reads writes ≢ empty → first_fits k reads writes first ≡ true → len ≤ LENGTH_LIMIT → later ≤ LENGTH_LIMIT
    → IsNormal (normalised k reads writes first len later)
is_normal Read reads writes first len later some fits bound bound' = record { sets = (some, refl); first = refl; len = bound; later = refl }
is_normal Write reads writes first len later some fits bound bound' = record { sets = (refl, some); first = refl; len = bound; later = refl }
is_normal Mixed reads writes first len later some fits bound bound' = record { sets = (difference_apart reads writes, some); first = refl; len = bound; later = refl }
is_normal Upgrade reads writes first len later some fits bound bound' = record { sets = (some, refl); first = refl; len = bound; later = bound' }
is_normal Nested reads writes first len later some fits bound bound' =
    record { sets = (difference_apart reads writes, some); first = ap (is_part first) (union_difference reads writes) ∙ fits; len = bound; later = refl }
