-- What an accepted event says about the events before it, and how needs that know those get to know it too.
use Rattle.std.proofs.Common.{◌≡◌, ◌<◌, ◌==◌, ◌&&◌, ℕ, zero, suc, true, List, [], ◌∷◌, ◌++◌, slice_get, Some, Result, Ok, Err, OnOk, sym, ap, subst, ◌∙◌}
use Rattle.std.proofs.lemmas.Bool.{eqb-true, and_parts}
use Rattle.rset.specs.Sets.{Set}
use Rattle.rexpand.specs.Groups.{ReadGroups}
use Rattle.rclaim.specs.Requests.{RequestFields}
use Rattle.rclaim.specs.declared.event.Event.{Event}
use Rattle.rclaim.specs.declared.event.Event.TheVariants.{Issue, Ask}
use Rattle.rmodel.specs.declared.claimed.Claimed.{Claimed}
use Rattle.rmodel.specs.Claims.{is_nested}
use Rattle.rmodel.specs.State.{opening}
use Rattle.rmodel.specs.Steps.{after, Comes, AreAccepted}
use Rattle.rmodel.proofs.ListFacts.{passing}
use Rattle.rmodel.proofs.reaching.Histories.{accepted_parts, sizes_after}
use Rattle.rmodel.proofs.reaching.Soundness.{ask_is_right}
use Rattle.rbound.proofs.ClaimFacts.{some_is}
use Rattle.rbound_history.specs.Shapes.{Shape, shape_index, is_nested_at}
use Rattle.rbound_history.proofs.SameShapes.{is_of}
use Rattle.rbound_history.proofs.ShapeRequests.{some_none}
use Rattle.rbound_history.specs.History.{shapes_told, last_issue}
use Rattle.rbound_history.specs.Keys.{place_among, place_of}
use Rattle.rbound_history.proofs.KnownClaims.{known_claims}
use Rattle.rbound_history.proofs.Later.{shape_found}
use Rattle.rbound_history.proofs.OneMore.{last_known}

module _ (groups : ReadGroups) (seats cap : ℕ) (es : List Event) where
  pub comes_last : (e : Event) → AreAccepted (opening groups seats cap) (es ++ e ∷ []) → Comes (after (opening groups seats cap) es) e
  comes_last e accepted = (accepted_parts (opening groups seats cap) es (e ∷ []) accepted).1.0

  pub seat_there : (seat : ℕ) (r : RequestFields) → AreAccepted (opening groups seats cap) (es ++ Issue seat r ∷ []) → seat < seats
  seat_there seat r accepted = subst (λ n. seat < n) (sizes_after (opening groups seats cap) es).seats (comes_last (Issue seat r) accepted).fits.seat_there

  -- an ask is that of a nested request, which is the last one of its seat
  pub record IsAskOfLast (seat : ℕ) : Type 0 where
    pub seated : seat < seats
    pub request : RequestFields
    pub last : last_issue seat es ≡ Some request
    pub nested : is_nested request.kind ≡ true

  pub ask_of_last : (seat : ℕ) (part : Set) → AreAccepted (opening groups seats cap) (es ++ Ask seat part ∷ []) → IsAskOfLast seat
  ask_of_last seat part accepted =
      let s = after (opening groups seats cap) es in
      let comes = comes_last (Ask seat part) accepted in
      let x = passing (λ (y : Claimed). (y.claim.seat == seat) && is_nested y.claim.kind) s.claims (ask_is_right s seat part comes.accepted).nested in
      let of_x = and_parts (x.0.claim.seat == seat) (is_nested x.0.claim.kind) x.2 in
      let known = (known_claims groups seats cap es (accepted_parts (opening groups seats cap) es (Ask seat part ∷ []) accepted).0 x.0 x.1).request in
      record {
        seated = subst (λ n. seat < n) (sizes_after (opening groups seats cap) es).seats comes.fits.0;
        request = known.0;
        last = ap (λ t. last_issue t es) (sym (eqb-true x.0.claim.seat seat of_x.0)) ∙ known.1.last;
        nested = ap is_nested (sym known.1.kind) ∙ of_x.1;
      }

nested_there : (shapes : List Shape) (place : ℕ) (s : Shape) → slice_get shapes place ≡ Some s → is_nested_at shapes place ≡ is_nested s.request.kind
nested_there [] place s at = some_none (sym at)
nested_there (y ∷ ss) zero s at = ap (λ (z : Shape). is_nested z.request.kind) (some_is at)
nested_there (y ∷ ss) (suc place) s at = nested_there ss place s at

pub nested_at : (groups : ReadGroups) (seats cap : ℕ) (es : List Event) (seat : ℕ) → IsAskOfLast groups seats cap es seat → is_nested_at (shapes_told es) (place_of es seat) ≡ true
nested_at groups seats cap es seat ask =
    let found = shape_found (shapes_told es) seat ask.request (last_known seat es ask.request ask.last) in
    let kind = (is_of seat ask.request found.0 found.2).alike.kind in
    ap (λ p. is_nested_at (shapes_told es) p) (ap (place_among (shapes_told es) seat) ask.last)
    ∙ nested_there (shapes_told es) (shape_index (shapes_told es) seat ask.request) found.0 found.1
    ∙ ap is_nested (sym kind)
    ∙ ask.nested

-- what follows from what holds where a call succeeds
pub on_ok_both : {T E P Q R : Type 0} (r : Result T E) → (P → Q → R) → OnOk r P → OnOk r Q → OnOk r R
on_ok_both (Ok v) gives p q = gives p q
on_ok_both (Err e) gives p q = cc
