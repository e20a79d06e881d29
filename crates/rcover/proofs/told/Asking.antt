-- Which requests have a pending ask.
use Rattle.std.proofs.Common.{◌≡◌, ◌≢◌, ◌==◌, nat_lt, true, not, ◌&&◌, cond, map, sym, ap, subst, ◌∙◌, inl, inr}
use Rattle.std.proofs.lemmas.Bool.{and_parts, and_from, eq-eqb, eqb-true}
use Rattle.std.specs.FinSet.{contains, empty, intersection, len, len-empty}
use Rattle.std.specs.Ordering.{nat_cmp}
use Rattle.rset.specs.Sets.{Set}
use Rattle.rset.proofs.SetLemmas.{meets_by_intersection, meets_empty_left}
use Rattle.rclaim.specs.declared.claim.Claim.{Claim}
use Rattle.rclaim.specs.declared.event.Event.{Event}
use Rattle.rclaim.specs.declared.event.Event.TheVariants.{Issue, Finish}
use Rattle.rclaim.specs.declared.event.Event.TheVariants as event
use Rattle.rmodel.specs.declared.claimed.Claimed.{Claimed}
use Rattle.rmodel.specs.declared.granted.Granted.{Granted}
use Rattle.rmodel.specs.Claims.{claims_of, is_nested, waiting}
use Rattle.rmodel.specs.Holds.{held_by, is_nothing}
use Rattle.rmodel.specs.Reached.{IsReached}
use Rattle.rmodel.specs.State.{LockState}
use Rattle.rmodel.specs.Steps.{asking, changed, next, Comes}
use Rattle.rmodel.specs.WellFormed.{Among, HasParts}
use Rattle.rmodel.proofs.ListFacts.{contrary, all_at, all_from, among_append, among_filter, none_among}
use Rattle.rmodel.proofs.reaching.Came.{among_map}
use Rattle.rmodel.proofs.reaching.HeldBySeat.{held_of_nested, is_nothing_of}
use Rattle.rmodel.proofs.reaching.NewClaims.{IsNew, new_claims}
use Rattle.rmodel.proofs.reaching.Reached.{reached_next}
use Rattle.rmodel.proofs.reaching.Soundness.{seat_is_idle}
use Rattle.rmodel.proofs.settling.Keeping.{not_false}
use Rattle.rmodel.proofs.settling.OneSettlement.{both_cases}
use Rattle.rcover_laws.specs.Moments.{Moment}
use Rattle.rcover_laws.specs.Told.{waits_for_ask}
use Rattle.rcover.specs.NotedSeats.{HoldAsking}
use Rattle.rcover.specs.Waiting.{asked_by}
use Rattle.rcover.proofs.told.Rising.{inserted_other, inserted_own, removed_other}
use Rattle.rcover.proofs.told.Waiting.{asked_from}

-- what asks for something is the claim of a nested request
pub asks_nested : (s : LockState) → IsReached s → (x : Claimed) → Among x s.claims → nat_lt 0 (len x.asked) ≡ true → is_nested x.claim.kind ≡ true
asks_nested s reached x there asks =
    both_cases (is_nested x.claim.kind) (λ on. on)
    (λ off.
    contrary (nat_lt 0 (len x.asked)) asks
    (ap (λ (a : Set). nat_lt 0 (len a)) ((all_at HasParts s.claims x reached.sound.parts there).of_others off).0 ∙ ap (nat_lt 0) (len-empty nat_cmp)))

-- nested requests that were granted the same part of the same hold the same
pub held_alike : (x y : Claimed) → is_nested x.claim.kind ≡ true → y.claim ≡ x.claim → y.granted ≡ x.granted → held_by y ≡ held_by x
held_alike x y nested claim granted =
    held_of_nested y (ap (λ c. is_nested c.kind) claim ∙ nested)
    ∙ (λ i. let g : Granted = record { reads = intersection (granted i) (claim i).reads; writes = intersection (granted i) (claim i).writes } in g)
    ∙ sym (held_of_nested x nested)

-- a request that was granted nothing holds nothing
pub held_none : (x : Claimed) → is_nested x.claim.kind ≡ true → x.granted ≡ empty → is_nothing (held_by x) ≡ true
held_none x nested none =
    is_nothing_of (held_by x)
    (held_of_nested x nested ∙ (λ i. let g : Granted = record { reads = no_part x.claim.reads i; writes = no_part x.claim.writes i } in g))
  where
    no_part : (s : Set) → intersection x.granted s ≡ empty
    no_part s = ap (λ (g : Set). intersection g s) none ∙ meets_by_intersection empty s (meets_empty_left s)

module _ (s : LockState) (e : Event) (reached : IsReached s) (comes : Comes s e) where
  abbrev n : Moment
  n = (next s e).claims

  -- an ask that is pending was so once the event had changed what is asked for
  pub pending_from : (x : Claimed) → Among x n → waits_for_ask n x ≡ true → (y : Claimed) × Among y (changed s e).claims × (y.claim ≡ x.claim) × (waits_for_ask n y ≡ true) × (is_nested y.claim.kind ≡ true)
  pending_from x there on =
      let parts = and_parts (not (is_nothing (held_by x))) (nat_lt 0 (len x.asked)) on in
      let from = asked_from s e reached comes x there parts.1 in
      let nested = asks_nested (next s e) (reached_next s e reached comes) x there parts.1 in
      let held = held_alike x from.0 nested from.2 from.3 in (
        from.0,
        from.1,
        from.2,
        and_from (not (is_nothing (held_by from.0))) (nat_lt 0 (len from.0.asked)) (ap (λ g. not (is_nothing g)) held ∙ parts.0) (ap (λ (a : Set). nat_lt 0 (len a)) from.4 ∙ parts.1),
        ap (λ (c : Claim). is_nested c.kind) from.2 ∙ nested,
      )

-- a claim with a pending ask once an event changed what is asked for
asking_in : (s : LockState) (e : Event) → Comes s e → (seats : Set) → HoldAsking seats s.claims → (y : Claimed) → Among y (changed s e).claims → waits_for_ask s.claims y ≡ true → is_nested y.claim.kind ≡ true → contains (asked_by seats e) y.claim.seat ≡ true
asking_in s (Issue seat r) comes seats hold y there on nested =
    let ns = map (waiting r.first) (claims_of s.groups.groups s.issued seat r) in
    elim (among_append s.claims ns y there) [
      | inl old ↦
          removed_other seats seat y.claim.seat (λ same. contrary (y.claim.seat == seat) (eq-eqb y.claim.seat seat same) (none_among (λ z. z.claim.seat == seat) s.claims y (seat_is_idle s seat r comes.accepted) old))
          ∙ all_at (λ z. waits_for_ask s.claims z ≡ true → contains seats z.claim.seat ≡ true) s.claims y hold old on
      | inr new ↦
          let is = all_at (IsNew s.issued seat) ns y (new_claims s.groups.groups s.issued seat r comes.normal).each new in
          contrary (is_nothing (held_by y)) (held_none y nested is.nothing_granted) (not_false (is_nothing (held_by y)) (and_parts (not (is_nothing (held_by y))) (nat_lt 0 (len y.asked)) on).0)
    ]
asking_in s (Finish seat) comes seats hold y there on nested =
    let kept = among_filter (λ x. not (x.claim.seat == seat)) s.claims y there in
    removed_other seats seat y.claim.seat (λ same. contrary (y.claim.seat == seat) (eq-eqb y.claim.seat seat same) (not_false (y.claim.seat == seat) kept.1))
    ∙ all_at (λ z. waits_for_ask s.claims z ≡ true → contains seats z.claim.seat ≡ true) s.claims y hold kept.0 on
asking_in s (event.Rise seat) comes seats hold y there on nested =
    all_at (λ z. waits_for_ask s.claims z ≡ true → contains seats z.claim.seat ≡ true) s.claims y hold (among_filter (λ x. not ((x.claim.seat == seat) && not x.claim.write_half)) s.claims y there).0 on
asking_in s (event.Ask seat part) comes seats hold y there on nested =
    let w = among_map (asking seat part) s.claims y there in
    both_cases (w.0.claim.seat == seat)
    (λ own.
    inserted_own seats seat y.claim.seat (ap (λ (z : Claimed). z.claim.seat) (w.2 ∙ ap (λ b. cond b (record w.0 { asked = part }) w.0) own) ∙ eqb-true w.0.claim.seat seat own))
    (λ off.
    let is : y ≡ w.0 = w.2 ∙ ap (λ b. cond b (record w.0 { asked = part }) w.0) off in
    let other : y.claim.seat ≢ seat = λ same. contrary (w.0.claim.seat == seat) (eq-eqb w.0.claim.seat seat (ap (λ (z : Claimed). z.claim.seat) (sym is) ∙ same)) off in
    inserted_other seats seat y.claim.seat other
    ∙ all_at (λ z. waits_for_ask s.claims z ≡ true → contains seats z.claim.seat ≡ true) s.claims y hold (subst (λ (z : Claimed). Among z s.claims) (sym is) w.1) on)

-- after any event, the set has all seats with a pending ask
pub asking_next : (s : LockState) (e : Event) → IsReached s → Comes s e → (seats : Set) → HoldAsking seats s.claims → HoldAsking (asked_by seats e) (next s e).claims
asking_next s e reached comes seats hold =
    all_from (λ x. waits_for_ask (next s e).claims x ≡ true → contains (asked_by seats e) x.claim.seat ≡ true) (next s e).claims
    (λ x there on.
    let from = pending_from s e reached comes x there on in
    ap (λ (c : Claim). contains (asked_by seats e) c.seat) (sym from.2) ∙ asking_in s e comes seats hold from.0 from.1 from.3 from.4)
