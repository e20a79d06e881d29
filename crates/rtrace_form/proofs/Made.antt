-- The request that is made of sets and lengths, or what refuses it whatever read groups there are.
use Rattle.std.proofs.Common.{◌≡◌, ◌≢◌, true, false, ◌==◌, List, Some, refl, ap, ◌∙◌, arith, true≢false}
use Rattle.std.proofs.lemmas.Bool.Decides.{nat_tests}
use Rattle.std.specs.Prelude.{Result, Ok, Err, IfOk, IfErr}
use Rattle.std.specs.Ordering.{nat_cmp}
use Rattle.std.specs.FinSet.{empty, len, empty_of_len, len-empty}
use Rattle.rset.specs.Sets.{Set}
use Rattle.rclaim.specs.Requests.{RequestFields, asked_set, first_fits, is_part, IsNormal}
use Rattle.rclaim.specs.declared.request.Kind.{Kind}
use Rattle.rclaim.specs.declared.request.Kind.TheVariants.{Read, Write, Mixed, Upgrade, Nested}
use Rattle.rclaim.specs.declared.request.RequestErr.{RequestErr}
use Rattle.rclaim.specs.declared.request.RequestErr.TheVariants.{EmptyRequest, FirstOutside, Undeclared}
use Rattle.rclaim.proofs.Normal.{union_difference}
use Rattle.rtrace_form.specs.Events.{request_refusal}
use Rattle.rtrace_form.specs.declared.requests.RequestSets.{RequestSets}
use Rattle.rtrace_form.specs.declared.requests.RequestLengths.{RequestLengths}
use Rattle.rtrace_form.specs.Requests.{request_told, IsMade}

pub has_members : (s : Set) → s ≢ empty → (len s == 0) ≡ false
has_members s h = elim (len s == 0) as (λ b. (len s == 0) ≡ b → b ≡ false) [ true ↦ λ e. absurd (h (empty_of_len s (grind (arith, nat_tests)))) | false ↦ λ _. refl ] refl

pub no_members : (s : Set) → s ≡ empty → (len s == 0) ≡ true
no_members s e = ap (λ t. len t == 0) e ∙ ap (λ n. n == 0) (len-empty nat_cmp)

refused_empty : (groups : List Set) (kind : Kind) (sets : RequestSets) (lengths : RequestLengths) → asked_set kind sets.reads sets.writes ≡ empty → request_refusal groups (request_told kind sets lengths) ≡ Some EmptyRequest
refused_empty groups Read sets lengths e = rw (no_members sets.reads e) refl
refused_empty groups Write sets lengths e = rw (no_members sets.writes e) refl
refused_empty groups Mixed sets lengths e = rw (no_members sets.writes e) refl
refused_empty groups Upgrade sets lengths e = rw (no_members sets.reads e) refl
refused_empty groups Nested sets lengths e = rw (no_members sets.writes e) refl

-- only the first part of a nested request can be outside
refused_outside : (groups : List Set) (kind : Kind) (sets : RequestSets) (lengths : RequestLengths) → asked_set kind sets.reads sets.writes ≢ empty → first_fits kind sets.reads sets.writes sets.first ≡ false
    → request_refusal groups (request_told kind sets lengths) ≡ Some FirstOutside
refused_outside groups Read sets lengths some outside = absurd (true≢false outside)
refused_outside groups Write sets lengths some outside = absurd (true≢false outside)
refused_outside groups Mixed sets lengths some outside = absurd (true≢false outside)
refused_outside groups Upgrade sets lengths some outside = absurd (true≢false outside)
refused_outside groups Nested sets lengths some outside = rw (has_members sets.writes some, ap (is_part sets.first) (union_difference sets.reads sets.writes) ∙ outside) refl

refused_new : (groups : List Set) (kind : Kind) (sets : RequestSets) (lengths : RequestLengths) (cause : RequestErr) → cause ≢ Undeclared
    → (cause ≡ EmptyRequest → asked_set kind sets.reads sets.writes ≡ empty)
    → (cause ≡ FirstOutside → (asked_set kind sets.reads sets.writes ≢ empty) × (first_fits kind sets.reads sets.writes sets.first ≡ false))
    → request_refusal groups (request_told kind sets lengths) ≡ Some cause
refused_new groups kind sets lengths EmptyRequest other none outside = refused_empty groups kind sets lengths (none refl)
refused_new groups kind sets lengths FirstOutside other none outside = refused_outside groups kind sets lengths (outside refl).0 (outside refl).1
refused_new groups kind sets lengths Undeclared other none outside = absurd (other refl)

pub is_made : (kind : Kind) (sets : RequestSets) (lengths : RequestLengths) (made : Result RequestFields RequestErr)
    → IfOk made (λ r. r ≡ request_told kind sets lengths) → IfOk made IsNormal → IfErr made (λ cause. cause ≢ Undeclared)
    → (made ≡ Err EmptyRequest → asked_set kind sets.reads sets.writes ≡ empty)
    → (made ≡ Err FirstOutside → (asked_set kind sets.reads sets.writes ≢ empty) × (first_fits kind sets.reads sets.writes sets.first ≡ false))
    → IsMade kind sets lengths made
is_made kind sets lengths (Ok r) made normal only none outside = (made, normal)
is_made kind sets lengths (Err cause) made normal only none outside = λ groups. refused_new groups kind sets lengths cause only (λ e. none (ap Err e)) (λ e. outside (ap Err e))
