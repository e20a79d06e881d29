-- Stamps distinguish requests: two claims of one stamp are of one seat.
use Rattle.std.proofs.Common.{◌≡◌, ℕ, ◌<◌, List, [], ◌∷◌, map, sym, ap, ◌∙◌, arith}
use Rattle.std.specs.List.{AllZip}
use Rattle.rclaim.specs.declared.event.Event.{Event}
use Rattle.rclaim.specs.declared.event.Event.TheVariants.{Issue, Finish, Rise, Ask}
use Rattle.rmodel.specs.declared.claimed.Claimed.{Claimed}
use Rattle.rmodel.specs.Changes.{SameClaim}
use Rattle.rmodel.specs.Claims.{claims_of, waiting}
use Rattle.rmodel.specs.Reached.{IsReached}
use Rattle.rmodel.specs.Settling.{settled}
use Rattle.rmodel.specs.State.{LockState}
use Rattle.rmodel.specs.Steps.{changed, next, after, Comes, AreAccepted}
use Rattle.rmodel.specs.WellFormed.{EachPair}
use Rattle.rmodel.proofs.settling.Giving.{same_given}
use Rattle.rmodel.proofs.ListFacts.{all_at, pairs_append_all, pairs_filter, pairs_from_all, pairs_of_zip}
use Rattle.rmodel.proofs.reaching.NewClaims.{IsNew, new_claims}
use Rattle.rmodel.proofs.reaching.Reached.{reached_next}
use Rattle.rmodel.proofs.settling.Settlement.{settles_settled}
use Rattle.rmodel.proofs.reaching.Soundness.{asking_same, same_claims, sound_changed}

-- two claims of one stamp were made by one request
abbrev pub OfOneSeat : Claimed → Claimed → Type 0
OfOneSeat x y = x.claim.stamp ≡ y.claim.stamp → x.claim.seat ≡ y.claim.seat

one_seat_same : (xs ys : List Claimed) → EachPair OfOneSeat xs → AllZip SameClaim xs ys → EachPair OfOneSeat ys
one_seat_same xs ys pairs same =
    pairs_of_zip OfOneSeat SameClaim OfOneSeat
    (λ x x' y y' had e e' stamps. ap (λ c. c.seat) e ∙ had (ap (λ c. c.stamp) (sym e) ∙ stamps ∙ ap (λ c. c.stamp) e') ∙ ap (λ c. c.seat) (sym e')) xs ys pairs same

one_seat_changed : (s : LockState) (e : Event) → IsReached s → Comes s e → EachPair OfOneSeat s.claims → EachPair OfOneSeat (changed s e).claims
one_seat_changed s (Issue seat r) reached comes pairs =
    let ns = map (waiting r.first) (claims_of s.groups.groups s.issued seat r) in
    let new = new_claims s.groups.groups s.issued seat r comes.normal in
    pairs_append_all OfOneSeat s.claims ns pairs
    (pairs_from_all (IsNew s.issued seat) OfOneSeat (λ x y is_x is_y stamps. is_x.seated ∙ sym is_y.seated) ns new.each)
    (λ x y in_s in_new stamps. absurd (below x.claim.stamp s.issued (all_at (λ x. x.claim.stamp < s.issued) s.claims x reached.sound.given_out in_s)
    (stamps ∙ (all_at (IsNew s.issued seat) ns y new.each in_new).stamped)))
  where
    below : (m n : ℕ) → m < n → m ≡ n → ⊥
    below m n less same = omega arith
one_seat_changed s (Finish seat) reached comes pairs = pairs_filter OfOneSeat _ s.claims pairs
one_seat_changed s (Rise seat) reached comes pairs = pairs_filter OfOneSeat _ s.claims pairs
one_seat_changed s (Ask seat part) reached comes pairs = one_seat_same s.claims (changed s (Ask seat part)).claims pairs (asking_same seat part s.claims)

pub one_seat_next : (s : LockState) (e : Event) → IsReached s → Comes s e → EachPair OfOneSeat s.claims → EachPair OfOneSeat (next s e).claims
one_seat_next s e reached comes pairs =
    let xs = (changed s e).claims in
    let settles = settles_settled xs (sound_changed s e reached.sound comes).well_formed in
    one_seat_same xs (next s e).claims (one_seat_changed s e reached comes pairs) (same_given xs (settled xs) (same_claims xs (settled xs) settles))

pub one_seat_after : (s : LockState) (es : List Event) → IsReached s → AreAccepted s es → EachPair OfOneSeat s.claims → EachPair OfOneSeat (after s es).claims
one_seat_after s [] reached accepted pairs = pairs
one_seat_after s (e ∷ es) reached accepted pairs = one_seat_after (next s e) es (reached_next s e reached accepted.0) accepted.1 (one_seat_next s e reached accepted.0 pairs)
