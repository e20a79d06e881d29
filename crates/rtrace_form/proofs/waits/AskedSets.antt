-- While an ask is pending, what is asked for is the last set for which its seat asked; so a history gives it by the number of the ask.
use Rattle.std.proofs.Common.{◌≡◌, ◌<◌, ℕ, true, List, [], ◌∷◌, ◌++◌, length, Some, refl, sym, ap, subst, ◌∙◌, arith, length-append}
use Rattle.std.specs.Prelude.{slice_index_or}
use Rattle.std.specs.List.{slice_get}
use Rattle.std.proofs.lemmas.List.FromFn.{get_or-map-range_with_len}
use Rattle.rset.specs.Sets.{Set}
use Rattle.rexpand.specs.Groups.{ReadGroups}
use Rattle.rclaim.specs.declared.event.Event.{Event}
use Rattle.rclaim.specs.declared.event.Event.TheVariants.{Issue, Finish, Rise, Ask}
use Rattle.rmodel.specs.declared.claimed.Claimed.{Claimed}
use Rattle.rmodel.specs.Reached.{IsReached}
use Rattle.rmodel.specs.State.{LockState, opening}
use Rattle.rmodel.specs.Steps.{next, after, AreAccepted}
use Rattle.rmodel.proofs.ListFacts.{Among, all_at}
use Rattle.rmodel.proofs.reaching.Reached.{reached_after, reached_opening}
use Rattle.rbound.specs.Needs.{RequestNeeds}
use Rattle.rbound.specs.TaskNeeds.{asks_at, asks_of}
use Rattle.rcover_laws.specs.History as history
use Rattle.rcover_laws.specs.History.{requests_of, history_needs, number_from, last_ask}
use Rattle.rcover_laws.specs.Told.{waits_for_ask}
use Rattle.rcover_laws.proofs.bounds.Issued.{IsIssueAt, IsIssued, issued_after}
use Rattle.rcover_laws.proofs.states.AtRest.{one_claim}
use Rattle.rcover_laws.proofs.told.OneClaim.{StandsAs}
use Rattle.rcover_laws.proofs.told.Waits.{ask_waits}
use Rattle.rcover_laws.proofs.past.KnownAsks.{IsKnown, known_claims}
use Rattle.rcover_laws.proofs.past.Asks.{asked_count, request_asks, last_at}

-- ---- what a history says of a pending ask

module _ (groups : ReadGroups) (seats cap : ℕ) (es rest : List Event) (accepted : AreAccepted (opening groups seats cap) es)
    (x : Claimed) (there : Among x (after (opening groups seats cap) es).claims) where
  abbrev first : LockState
  first = opening groups seats cap

  reached : IsReached (after first es)
  reached = reached_after first es (reached_opening groups seats cap) accepted

  issued : IsIssued (es ++ rest) groups.groups x.claim
  issued =
      (issued_after (es ++ rest) groups.groups first es rest (reached_opening groups seats cap) accepted (record {
        issued = λ y none. absurd none;
        left_over = λ k seat r at. subst (λ (n : ℕ). IsIssueAt (es ++ rest) n seat r) (omega arith) at;
        same = refl;
      })).issued x there

  known : IsKnown es x
  known = known_claims groups seats cap es accepted x there

  -- *The last ask of a request that waits for one is for the set that it asks for*
  pub asked_at : waits_for_ask (after first es).claims x ≡ true
      → slice_get (asks_at (history_needs seats (es ++ rest)) x.claim.seat (number_from (es ++ rest) x.claim.stamp x.claim.seat)) (last_ask es x.claim) ≡ Some x.asked
  asked_at waits =
      let seat = x.claim.seat in
      let all = es ++ rest in
      let below : seat < seats = subst (λ n. seat < n) (same_seats first es) (all_at (λ (y : Claimed). y.claim.seat < (after first es).seats) (after first es).claims x reached.sound.seated there) in
      let stands : StandsAs waits_for_ask x.claim (after first es).claims = record { at = x; among = there; is = refl; passes = waits } in
      let w = ask_waits (after first es) reached x.claim x.asked stands refl in
      let same : w.at ≡ x = one_claim (after first es) reached w.at x w.among there w.is in
      let found = known.last (λ none. w.holds_some (ap (λ (y : Claimed). y.granted) same ∙ none)) w.some in
      let count = ap length (sym found.1) ∙ asked_count seat es in
      let long = length-append found.0 (x.asked ∷ []) in
      let place : last_ask es x.claim ≡ length found.0 = omega (arith, count, long) in
      let requests : slice_index_or (history_needs seats all) seat [] ≡ requests_of seat all = get_or-map-range_with_len (λ task. requests_of task all) 0 seats seat seat [] below (omega arith) in
      let request = ap (λ (ns : List RequestNeeds). slice_get ns (number_from all x.claim.stamp seat)) requests ∙ request_asks all x.claim.stamp seat issued.request issued.at in
      let asks : asks_at (history_needs seats all) seat (number_from all x.claim.stamp seat) ≡ (found.0 ++ x.asked ∷ []) ++ history.asks_of seat rest =
      ap asks_of request ∙ known.behind rest ∙ ap (λ (parts : List Set). parts ++ history.asks_of seat rest) found.1 in
      (λ i. slice_get (asks i) (place i)) ∙ last_at found.0 x.asked (history.asks_of seat rest)
    where
      same_seats : (s : LockState) (ds : List Event) → (after s ds).seats ≡ s.seats
      same_seats s [] = refl
      same_seats s (e ∷ ds) = same_seats (next s e) ds ∙ one e
        where
          one : (e : Event) → (next s e).seats ≡ s.seats
          one (Issue seat r) = refl
          one (Finish seat) = refl
          one (Rise seat) = refl
          one (Ask seat part) = refl
