-- Each wait that a state shows is covered, and within its bound.
use Rattle.std.proofs.Common.{◌≡◌, ℕ, Bool, true, false, not, ◌&&◌, List, [], ◌∷◌, ◌++◌, refl, sym, ap, subst, ◌∙◌}
use Rattle.std.proofs.lemmas.Bool.{and_parts, and_from}
use Rattle.std.specs.List.{AllByRecursion}
use Rattle.rbound.specs.Groups.{ReadGroups}
use Rattle.rclaim.specs.declared.event.Event.{Event}
use Rattle.rmodel.specs.declared.claimed.Claimed.{Claimed}
use Rattle.rmodel.specs.Claims.{is_upgrade, is_satisfied}
use Rattle.rmodel.specs.Holds.{held_by, is_nothing}
use Rattle.rmodel.specs.Reached.{IsReached}
use Rattle.rmodel.specs.State.{LockState, opening}
use Rattle.rmodel.specs.Steps.{after, AreAccepted}
use Rattle.rmodel.specs.WellFormed.{EachPair}
use Rattle.rmodel.proofs.ListFacts.{Among, false_from, contrary, any_among}
use Rattle.rmodel.proofs.reaching.Histories.{accepted_parts, after_append}
use Rattle.rmodel.proofs.reaching.Reached.{reached_after, reached_opening}
use Rattle.rmodel.proofs.reaching.Stamps.{OfOneSeat, one_seat_after}
use Rattle.rmodel.proofs.settling.Keeping.{not_false}
use Rattle.rbound.specs.Bounds.{first_bound, rise_bound, ask_bound_of}
use Rattle.rcover_laws.specs.Covers.{IsReadCovered, IsWriteCovered, IsAskCovered}
use Rattle.rcover_laws.specs.History.{length_in, number_in}
use Rattle.rcover_laws.specs.Line.{write_sections}
use Rattle.rcover_laws.specs.Moments.{Moment, moments, is_claim}
use Rattle.rcover_laws.specs.Promises.{EachWaitIsBounded}
use Rattle.rcover_laws.specs.Sections.{read_sections, ask_sections}
use Rattle.rcover_laws.specs.Told.{is_rising_half, waits_first, has_read_claim, waits_to_rise, waits_for_ask, stands, wait_so_far, IsBounded}
use Rattle.rcover_laws.specs.Waits.{ReadWaits, WriteWaits}
use Rattle.rcover_laws.specs.Within.{numbers_of, needed_by, AreWithinBounds}
use Rattle.rcover_laws.proofs.bounds.Within.{waits_are_within_bounds}
use Rattle.rcover_laws.proofs.covers.AskCover.{ask_covered}
use Rattle.rcover_laws.proofs.covers.ReadCover.{read_covered}
use Rattle.rcover_laws.proofs.covers.WriteCover.{write_covered}
use Rattle.rcover_laws.proofs.lists.Found.{all_both}
use Rattle.rcover_laws.proofs.runs.Moments.{at_moments, is_itself}
use Rattle.rcover_laws.proofs.told.Asked.{ask_run}
use Rattle.rcover_laws.proofs.told.OneClaim.{StandsAs, standing}
use Rattle.rcover_laws.proofs.told.Runs.{run_is}
use Rattle.rcover_laws.proofs.told.Waits.{read_waits, write_waits, rise_waits}

joined : {X : Type 0} (xs ys zs : List X) → (xs ++ ys) ++ zs ≡ xs ++ (ys ++ zs)
joined [] ys zs = refl
joined (x ∷ xs) ys zs = ap (λ ws. x ∷ ws) (joined xs ys zs)

-- the wait of a claim so far: a run that some of the events make, at each moment of which that very claim is there and passes the test
pub record IsWait (groups : ReadGroups) (seats cap : ℕ) (events rest : List Event) (test : Moment → Claimed → Bool) (x : Claimed) : Type 0 where
  pub start : LockState
  pub more : List Event
  pub reached : IsReached start
  pub accepted : AreAccepted start more
  pub seats_apart : EachPair OfOneSeat start.claims
  pub ends : after start more ≡ after (opening groups seats cap) events
  pub is : wait_so_far test x.claim (moments (opening groups seats cap) events) ≡ moments start more
  pub each : AllByRecursion (StandsAs test x.claim) (moments start more)
  pub last : Among x (after start more).claims
  pub within : AreWithinBounds groups seats cap (events ++ rest) (moments start more)

module _ (groups : ReadGroups) (seats cap : ℕ) (events rest : List Event) (accepted : AreAccepted (opening groups seats cap) events) where
  abbrev first : LockState
  first = opening groups seats cap

  abbrev now : LockState
  now = after first events

  pub wait_is : (test : Moment → Claimed → Bool) (x : Claimed) → Among x now.claims → test now.claims x ≡ true → IsWait groups seats cap events rest test x
  wait_is test x there on =
      let p = stands test x.claim in
      let r = run_is p first events (any_among (λ y. is_claim x.claim y.claim && test now.claims y) now.claims x there (and_from (is_claim x.claim x.claim) (test now.claims x) (is_itself x.claim) on)) in
      let all = subst (AreAccepted first) r.parts accepted in
      let parts = accepted_parts first r.before r.more all in
      let start = after first r.before in
      let reached = reached_after first r.before (reached_opening groups seats cap) parts.0 in
      let last : Among x (after start r.more).claims = subst (λ (s : LockState). Among x s.claims) (ap (after first) r.parts ∙ after_append first r.before r.more) there in
      record {
        start = start;
        more = r.more;
        reached = reached;
        accepted = parts.1;
        seats_apart = one_seat_after first r.before (reached_opening groups seats cap) parts.0 tt;
        ends = sym (ap (after first) r.parts ∙ after_append first r.before r.more);
        is = r.is;
        each = standing test x.claim start r.more reached parts.1 (one_seat_after first r.before (reached_opening groups seats cap) parts.0 tt) r.passes (record { at = x; among = last; is = refl });
        last = last;
        within = subst (λ (es : List Event). AreWithinBounds groups seats cap es (moments start r.more)) (sym (ap (λ es. es ++ rest) r.parts ∙ joined r.before r.more rest)) (waits_are_within_bounds groups seats cap r.before r.more rest all);
      }

  module _ (x : Claimed) (there : Among x now.claims) where
    abbrev so_far : (Moment → Claimed → Bool) → List Moment
    so_far test = wait_so_far test x.claim (moments first events)

    of_first_read : x.claim.write_half ≡ false → waits_first now.claims x ≡ true
        → IsBounded (IsReadCovered x.claim (so_far waits_first)) (numbers_of (length_in (events ++ rest)) (read_sections x.claim (so_far waits_first)))
        (first_bound (needed_by groups seats (events ++ rest)) seats cap x.claim.seat (number_in (events ++ rest) x.claim))
    of_first_read read on =
        let w = wait_is waits_first x there on in
        let ms = moments w.start w.more in
        let waits = all_both (StandsAs waits_first x.claim) (λ m. StandsAs waits_first x.claim m → ReadWaits x.claim m) (ReadWaits x.claim) (λ m h f. f h) ms w.each
        (at_moments (λ m. StandsAs waits_first x.claim m → ReadWaits x.claim m) (λ s r h. read_waits s r x.claim read h) w.start w.more w.reached w.accepted) in
        subst (λ (run : List Moment). IsBounded (IsReadCovered x.claim run) (numbers_of (length_in (events ++ rest)) (read_sections x.claim run))
        (first_bound (needed_by groups seats (events ++ rest)) seats cap x.claim.seat (number_in (events ++ rest) x.claim))) (sym w.is)
        (record { is_covered = read_covered w.start w.more w.reached w.accepted x.claim waits; is_within = w.within.reads x.claim waits })

    of_first_write : x.claim.write_half ≡ true → waits_first now.claims x ≡ true
        → IsBounded (IsWriteCovered x.claim (so_far waits_first)) (numbers_of (length_in (events ++ rest)) (write_sections x.claim (so_far waits_first)))
        (first_bound (needed_by groups seats (events ++ rest)) seats cap x.claim.seat (number_in (events ++ rest) x.claim))
    of_first_write write on =
        let w = wait_is waits_first x there on in
        let ms = moments w.start w.more in
        let waits = all_both (StandsAs waits_first x.claim) (λ m. StandsAs waits_first x.claim m → WriteWaits x.claim m) (WriteWaits x.claim) (λ m h f. f h) ms w.each
        (at_moments (λ m. StandsAs waits_first x.claim m → WriteWaits x.claim m) (λ s r h. write_waits s r x.claim write h) w.start w.more w.reached w.accepted) in
        let plain : is_upgrade x.claim.kind ≡ false = false_from (is_upgrade x.claim.kind) (λ up.
        contrary (is_rising_half x.claim) (and_from (is_upgrade x.claim.kind) x.claim.write_half up write)
        (not_false (is_rising_half x.claim) (and_parts (is_nothing (held_by x)) (not (is_rising_half x.claim)) on).1)) in
        subst (λ (run : List Moment). IsBounded (IsWriteCovered x.claim run) (numbers_of (length_in (events ++ rest)) (write_sections x.claim run))
        (first_bound (needed_by groups seats (events ++ rest)) seats cap x.claim.seat (number_in (events ++ rest) x.claim))) (sym w.is)
        (record { is_covered = write_covered x.claim w.start w.more w.reached w.accepted waits; is_within = w.within.writes x.claim plain waits })

    of_rise : waits_to_rise now.claims x ≡ true
        → IsBounded (IsWriteCovered x.claim (so_far waits_to_rise)) (numbers_of (length_in (events ++ rest)) (write_sections x.claim (so_far waits_to_rise)))
        (rise_bound (needed_by groups seats (events ++ rest)) seats cap x.claim.seat (number_in (events ++ rest) x.claim))
    of_rise on =
        let w = wait_is waits_to_rise x there on in
        let ms = moments w.start w.more in
        let waits = all_both (StandsAs waits_to_rise x.claim) (λ m. StandsAs waits_to_rise x.claim m → WriteWaits x.claim m) (WriteWaits x.claim) (λ m h f. f h) ms w.each
        (at_moments (λ m. StandsAs waits_to_rise x.claim m → WriteWaits x.claim m) (λ s r h. rise_waits s r x.claim h) w.start w.more w.reached w.accepted) in
        let first_part = (and_parts (is_rising_half x.claim && not (has_read_claim now.claims x.claim)) (not (is_satisfied x)) on).0 in
        let up = (and_parts (is_upgrade x.claim.kind) x.claim.write_half (and_parts (is_rising_half x.claim) (not (has_read_claim now.claims x.claim)) first_part).0).0 in
        subst (λ (run : List Moment). IsBounded (IsWriteCovered x.claim run) (numbers_of (length_in (events ++ rest)) (write_sections x.claim run))
        (rise_bound (needed_by groups seats (events ++ rest)) seats cap x.claim.seat (number_in (events ++ rest) x.claim))) (sym w.is)
        (record { is_covered = write_covered x.claim w.start w.more w.reached w.accepted waits; is_within = w.within.rises x.claim up waits })

    of_ask : waits_for_ask now.claims x ≡ true
        → IsBounded (IsAskCovered x.claim x.asked (so_far waits_for_ask)) (numbers_of (length_in (events ++ rest)) (ask_sections x.claim x.asked (so_far waits_for_ask)))
        (ask_bound_of (needed_by groups seats (events ++ rest)) x.claim.seat (number_in (events ++ rest) x.claim) x.asked)
    of_ask on =
        let w = wait_is waits_for_ask x there on in
        let waits = ask_run x.claim x.asked w.start w.more w.reached w.accepted w.each x w.last refl refl in
        subst (λ (run : List Moment). IsBounded (IsAskCovered x.claim x.asked run) (numbers_of (length_in (events ++ rest)) (ask_sections x.claim x.asked run))
        (ask_bound_of (needed_by groups seats (events ++ rest)) x.claim.seat (number_in (events ++ rest) x.claim) x.asked)) (sym w.is)
        (record { is_covered = ask_covered x.claim x.asked w.start w.more w.reached w.accepted waits; is_within = w.within.asks x.claim x.asked waits })

pub each_wait_is_bounded : EachWaitIsBounded
each_wait_is_bounded groups seats cap events rest accepted x there = record {
  first_read = of_first_read groups seats cap events rest accepted x there;
  first_write = of_first_write groups seats cap events rest accepted x there;
  rise = of_rise groups seats cap events rest accepted x there;
  ask = of_ask groups seats cap events rest accepted x there;
}
