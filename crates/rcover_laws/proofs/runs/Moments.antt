-- Runs of moments: what holds in each state that accepted events lead to holds at each moment.
use Rattle.std.proofs.Common.{◌≡◌, Bool, true, false, ◌&&◌, List, [], ◌∷◌, refl, sym, ap, ◌∙◌}
use Rattle.std.proofs.lemmas.Bool.{and_parts, and_from, eqb-true, eq-eqb}
use Rattle.std.specs.List.{AllByRecursion}
use Rattle.rclaim.specs.declared.claim.Claim.{Claim}
use Rattle.rclaim.specs.declared.event.Event.{Event}
use Rattle.rmodel.specs.Changes.{is_same}
use Rattle.rmodel.specs.Claims.{is_satisfied}
use Rattle.rmodel.specs.Reached.{IsReached}
use Rattle.rmodel.specs.State.{LockState}
use Rattle.rmodel.specs.Steps.{next, AreAccepted}
use Rattle.rmodel.proofs.ListFacts.{any_among, passing, false_from, contrary}
use Rattle.rmodel.proofs.reaching.Reached.{reached_next}
use Rattle.rcover_laws.specs.Moments.{Moment, moments, is_claim, holds_at, There}
use Rattle.rcover_laws.proofs.states.AtRest.{Sat, same_write}

pub at_moments : (P : Moment → Type 0) → ((s : LockState) → IsReached s → P s.claims) → (s : LockState) (es : List Event) → IsReached s → AreAccepted s es → AllByRecursion P (moments s es)
at_moments P each s [] reached accepted = (each s reached, tt)
at_moments P each s (e ∷ es) reached accepted = (each s reached, at_moments P each (next s e) es (reached_next s e reached accepted.0) accepted.1)

-- ---- a claim itself, by stamp and half

pub is_same_itself : (b : Bool) → is_same b b ≡ true
is_same_itself true = refl
is_same_itself false = refl

pub same_of : (a b : Bool) → is_same a b ≡ true → a ≡ b
same_of true true h = refl
same_of true false h = sym h
same_of false true h = contrary false h refl
same_of false false h = refl

pub is_itself : (c : Claim) → is_claim c c ≡ true
is_itself c = and_from _ (is_same c.write_half c.write_half) (eq-eqb c.stamp c.stamp refl) (is_same_itself c.write_half)

pub is_other : (c d : Claim) → c ≡ d → is_claim c d ≡ true
is_other c d same = ap (is_claim c) (sym same) ∙ is_itself c

-- two claims that are the same
pub record AreOne (c d : Claim) : Type 0 where
  pub stamp : c.stamp ≡ d.stamp
  pub half : c.write_half ≡ d.write_half

pub are_one : (c d : Claim) → is_claim c d ≡ true → AreOne c d
are_one c d h = let parts = and_parts _ (is_same c.write_half d.write_half) h in record { stamp = eqb-true c.stamp d.stamp parts.0; half = same_of c.write_half d.write_half parts.1 }

pub one_from : (c d : Claim) → AreOne c d → is_claim c d ≡ true
one_from c d one = and_from _ (is_same c.write_half d.write_half) (eq-eqb c.stamp d.stamp one.stamp) (ap (is_same c.write_half) (sym one.half) ∙ is_same_itself c.write_half)

-- ---- a claim that is satisfied at a moment

pub holds_sat : (c : Claim) (m : Moment) → Sat c m → holds_at c m ≡ true
holds_sat c m sat = any_among (λ x. is_satisfied x && is_claim c x.claim) m sat.at sat.among (and_from (is_satisfied sat.at) (is_claim c sat.at.claim) sat.satisfied (is_other c sat.at.claim (sym sat.is)))

-- one of the same stamp and half is satisfied there too
pub holds_one : (c d : Claim) (m : Moment) → AreOne c d → holds_at c m ≡ true → holds_at d m ≡ true
holds_one c d m one holds =
    let x = passing (λ x. is_satisfied x && is_claim c x.claim) m holds in
    let parts = and_parts (is_satisfied x.0) (is_claim c x.0.claim) x.2 in
    let by = are_one c x.0.claim parts.1 in
    any_among (λ x. is_satisfied x && is_claim d x.claim) m x.0 x.1
    (and_from (is_satisfied x.0) (is_claim d x.0.claim) parts.0 (one_from d x.0.claim (record { stamp = sym one.stamp ∙ by.stamp; half = sym one.half ∙ by.half })))

-- a write that is there holds exactly if it is satisfied
pub sat_holds : (s : LockState) → IsReached s → (c : Claim) → c.write_half ≡ true → There c s.claims → holds_at c s.claims ≡ true → Sat c s.claims
sat_holds s reached c write there holds =
    let x = passing (λ x. is_satisfied x && is_claim c x.claim) s.claims holds in
    let parts = and_parts (is_satisfied x.0) (is_claim c x.0.claim) x.2 in
    let by = are_one c x.0.claim parts.1 in
    let one : x.0 ≡ there.at = same_write s reached x.0 there.at x.1 there.among (sym by.half ∙ write) (ap (λ c. c.write_half) there.is ∙ write) (sym by.stamp ∙ ap (λ c. c.stamp) (sym there.is)) in
    record { at = x.0; among = x.1; is = ap (λ z. z.claim) one ∙ there.is; satisfied = parts.0 }

pub not_held : (c : Claim) (m : Moment) → (x : There c m) → holds_at c m ≡ false → is_satisfied x.at ≡ false
not_held c m x none = false_from (is_satisfied x.at) (λ sat. contrary (holds_at c m) (holds_sat c m (record { at = x.at; among = x.among; is = x.is; satisfied = sat })) none)
