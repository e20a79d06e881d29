-- A claim of one stamp and half is the same claim at each moment of a run.
use Rattle.std.proofs.Common.{◌≡◌, ◌<◌, Bool, true, ◌&&◌, List, [], ◌∷◌, sym, ap, ◌∙◌, inl, inr, arith}
use Rattle.std.proofs.lemmas.Bool.{and_parts}
use Rattle.std.specs.List.{list_all, AllByRecursion}
use Rattle.rclaim.specs.declared.claim.Claim.{Claim}
use Rattle.rclaim.specs.declared.event.Event.{Event}
use Rattle.rmodel.specs.declared.claimed.Claimed.{Claimed}
use Rattle.rmodel.specs.Reached.{IsReached}
use Rattle.rmodel.specs.State.{LockState}
use Rattle.rmodel.specs.Steps.{next, after, AreAccepted}
use Rattle.rmodel.specs.WellFormed.{EachPair, Distinct}
use Rattle.rmodel.proofs.ListFacts.{Among, contrary, pair_among, pairs_both, passing}
use Rattle.rmodel.proofs.reaching.Reached.{reached_next}
use Rattle.rmodel.proofs.reaching.Soundness.{read_of_half}
use Rattle.rmodel.proofs.reaching.Stamps.{OfOneSeat, one_seat_next}
use Rattle.rcover_laws.specs.Moments.{Moment, moments, is_claim, There}
use Rattle.rcover_laws.specs.Told.{stands}
use Rattle.rcover_laws.proofs.runs.Moments.{AreOne, are_one}
use Rattle.rcover_laws.proofs.states.AtRest.{stamp_given}
use Rattle.rcover_laws.proofs.states.ThroughEvent.{there_before}

-- in a state, claims of one stamp and half are the same
pub one_of_stamp : (s : LockState) → IsReached s → EachPair OfOneSeat s.claims → (x y : Claimed) → Among x s.claims → Among y s.claims → AreOne x.claim y.claim → x ≡ y
one_of_stamp s reached seats x y in_x in_y one =
    elim (pair_among (λ x y. Distinct x y × OfOneSeat x y) s.claims x y (pairs_both Distinct OfOneSeat (λ x y. Distinct x y × OfOneSeat x y) (λ x y d o. (d, o)) s.claims reached.sound.one_each seats) in_x in_y) [
      | inl same ↦ same
      | inr (inl h) ↦ let halves = h.0 (h.1 one.stamp) in contrary y.claim.write_half halves.writes (sym one.half ∙ read_of_half x.claim halves.reads)
      | inr (inr h) ↦ let halves = h.0 (h.1 (sym one.stamp)) in contrary x.claim.write_half halves.writes (one.half ∙ read_of_half y.claim halves.reads)
    ]

-- a claim is there at a moment, and passes a test
pub record StandsAs (test : Moment → Claimed → Bool) (c : Claim) (m : Moment) : Type 0 where
  pub at : Claimed
  pub among : Among at m
  pub is : at.claim ≡ c
  pub passes : test m at ≡ true

module _ (test : Moment → Claimed → Bool) (c : Claim) where
  pub standing : (s : LockState) (es : List Event) → IsReached s → AreAccepted s es → EachPair OfOneSeat s.claims → list_all (stands test c) (moments s es) ≡ true → There c (after s es).claims
      → AllByRecursion (StandsAs test c) (moments s es)
  standing s [] reached accepted seats all last =
      let parts = and_parts (stands test c s.claims) true all in
      let x = passing (λ x. is_claim c x.claim && test s.claims x) s.claims parts.0 in
      let of_x = and_parts (is_claim c x.0.claim) (test s.claims x.0) x.2 in
      let one = are_one c x.0.claim of_x.0 in
      let same : x.0 ≡ last.at = one_of_stamp s reached seats x.0 last.at x.1 last.among
      (record { stamp = sym one.stamp ∙ ap (λ d. d.stamp) (sym last.is); half = sym one.half ∙ ap (λ d. d.write_half) (sym last.is) }) in
      (record { at = x.0; among = x.1; is = ap (λ (z : Claimed). z.claim) same ∙ last.is; passes = of_x.1 }, tt)
  standing s (e ∷ es) reached accepted seats all last =
      let parts = and_parts (stands test c s.claims) (list_all (stands test c) (moments (next s e) es)) all in
      let on = reached_next s e reached accepted.0 in
      let rest = standing (next s e) es on accepted.1 (one_seat_next s e reached accepted.0 seats) parts.1 last in
      let x = passing (λ x. is_claim c x.claim && test s.claims x) s.claims parts.0 in
      let of_x = and_parts (is_claim c x.0.claim) (test s.claims x.0) x.2 in
      let one = are_one c x.0.claim of_x.0 in
      let below : c.stamp < s.issued = (let given = stamp_given s reached x.0 x.1 in let same = one.stamp in omega arith) in
      let was = there_before s e reached accepted.0 c (record { at = rest.0.at; among = rest.0.among; is = rest.0.is }) below in
      let same : x.0 ≡ was.at = one_of_stamp s reached seats x.0 was.at x.1 was.among
      (record { stamp = sym one.stamp ∙ ap (λ d. d.stamp) (sym was.is); half = sym one.half ∙ ap (λ d. d.write_half) (sym was.is) }) in
      (record { at = x.0; among = x.1; is = ap (λ (z : Claimed). z.claim) same ∙ was.is; passes = of_x.1 }, rest)
