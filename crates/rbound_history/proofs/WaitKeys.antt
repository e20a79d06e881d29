-- The bound of a wait by what a whole history needs is found by its key.
use Rattle.std.proofs.Common.{◌≡◌, ◌<◌, ◌==◌, ◌&&◌, ◌||◌, nat_lt, not, ℕ, Bool, true, false, cond, List, [], ◌∷◌, ◌++◌, length, Option, Some, None, refl, sym, ap, subst, ◌∙◌, inl, arith, length-append}
use Rattle.std.specs.Prelude.{IsSome, option_map}
use Rattle.std.specs.List.{slice_get, position_or_len}
use Rattle.std.specs.FinSet.{len}
use Rattle.std.proofs.lemmas.Bool.{eq-eqb, eqb-true, and_parts, and_from}
use Rattle.std.proofs.lemmas.List.{append-nil}
use Rattle.std.proofs.lemmas.Option.{slice_get_within}
use Rattle.rset.specs.Sets.{Set, equals}
use Rattle.rexpand.specs.Groups.{ReadGroups}
use Rattle.rclaim.specs.Requests.{RequestFields}
use Rattle.rclaim.specs.declared.request.Kind.{Kind}
use Rattle.rclaim.specs.declared.request.Kind.TheVariants.{Read, Write, Mixed, Upgrade, Nested}
use Rattle.rclaim.specs.declared.event.Event.{Event}
use Rattle.rclaim.specs.declared.event.Event.TheVariants.{Issue, Finish}
use Rattle.rclaim.specs.declared.event.Event.TheVariants as event
use Rattle.rmodel.specs.declared.claimed.Claimed.{Claimed}
use Rattle.rmodel.specs.Claims.{is_satisfied, is_upgrade, is_nested}
use Rattle.rmodel.specs.Holds.{held_by, is_nothing, holds_of, has_ask}
use Rattle.rmodel.specs.Reached.{IsReached}
use Rattle.rmodel.specs.State.{LockState, opening}
use Rattle.rmodel.specs.Steps.{next, after, is_not_holding, Comes, AreAccepted}
use Rattle.rmodel.proofs.ListFacts.{Among, contrary, false_from, all_at, none_among, among_behind}
use Rattle.rmodel.proofs.reaching.Histories.{accepted_parts, sizes_after}
use Rattle.rmodel.proofs.reaching.Reached.{reached_after, reached_opening}
use Rattle.rmodel.proofs.reaching.Soundness.{seat_is_idle, passed}
use Rattle.rbound.specs.Bounds.{Numbers}
use Rattle.rbound.specs.Needs.{RequestNeeds}
use Rattle.rbound.specs.TaskNeeds.{requests_of, kind_at, bound_of, asks_of as asks_of_request}
use Rattle.rbound.specs.declared.which.Which.{Which}
use Rattle.rbound.specs.declared.which.Which.TheVariants as which
use Rattle.rbound.proofs.ClaimFacts.{some_is}
use Rattle.rcover_laws.specs.Ended.{wait_of, wait_end, ended_if}
use Rattle.rcover_laws.specs.History as history
use Rattle.rcover_laws.specs.History.{history_needs, number_from, last_ask}
use Rattle.rcover_laws.specs.Moments.{Moment, moments}
use Rattle.rcover_laws.specs.Told.{is_rising_half, has_read_claim, waits_first, waits_to_rise, waits_for_ask}
use Rattle.rcover_laws.specs.Waits.{AskWaits}
use Rattle.rcover_laws.specs.declared.wait_end.WaitEnd.{WaitEnd}
use Rattle.rcover_laws.proofs.lists.Different.{among_filter_map}
use Rattle.rcover_laws.proofs.told.Few.{waits_told}
use Rattle.rcover_laws.proofs.told.OneClaim.{StandsAs}
use Rattle.rcover_laws.proofs.told.Waits.{ask_waits}
use Rattle.rcover_laws.proofs.states.AtRest.{one_claim}
use Rattle.rbound_history.specs.Shapes.{Shape, has_shape, shape_index, ask_index, task_at}
use Rattle.rbound_history.specs.ShapeNeeds.{needs_of_shapes, number_before}
use Rattle.rbound_history.specs.Promises.{IsSameWait}
use Rattle.rbound_history.proofs.SameBounds.{bounds_are_of_shapes}
use Rattle.rbound_history.proofs.ShapeRequests.{some_none, at_among}
use Rattle.rbound_history.proofs.ShapesGrow.{one_only}
use Rattle.rbound_history.specs.Foreseen.{MayHave}
use Rattle.rbound_history.specs.History.{shapes_told}
use Rattle.rbound_history.specs.Keys.{place_among, ask_among, place_of, ask_of, with_ask_number, key_of, IsLastEnded}
use Rattle.rbound_history.specs.Knows.{bound_by}
use Rattle.rcover_laws.proofs.past.Asks.{more_asked, asked_since, asked_push, asked_count, asks_behind, request_asks, is_issue_of, last_at}
use Rattle.rcover_laws.proofs.past.KnownAsks.{not_of}
use Rattle.rbound_history.proofs.LastAsked.{last_asked}
use Rattle.rbound_history.proofs.HistoryShapes.{have_shapes, needs_fine, requests_by, as_many}
use Rattle.rbound_history.proofs.KnownClaims.{IsOfLast, IsKnown, known_claims, known_on, of_last_on}
use Rattle.rbound_history.proofs.Later.{HasBecome, shapes_stay, shape_found, parts_at, task_is, part_found, found_still}
use Rattle.rbound_history.proofs.OneMore.{last_known}

-- its request may have the wait, and what is found by the key of the wait is its bound
pub record IsFound (groups : ReadGroups) (seats cap : ℕ) (es all : List Event) (w : WaitEnd) : Type 0 where
  pub seated : w.seat < seats
  pub foreseen : MayHave (history_needs seats all) w.seat (number_from all w.stamp w.seat) w.which
  pub within : (key_of es w).shape < length (shapes_told all)
  pub bound : bound_of (record { groups = groups; tasks = needs_of_shapes seats (shapes_told all) }) cap (task_at (shapes_told all) (key_of es w).shape) (number_before (shapes_told all) (task_at (shapes_told all) (key_of es w).shape) (key_of es w).shape) (key_of es w).which
      ≡ bound_by groups seats cap all w

-- ---- kinds

upgrade_is : (k : Kind) → is_upgrade k ≡ true → k ≡ Upgrade
upgrade_is Read is = cc
upgrade_is Write is = cc
upgrade_is Mixed is = cc
upgrade_is Upgrade is = refl
upgrade_is Nested is = cc

nested_is : (k : Kind) → is_nested k ≡ true → k ≡ Nested
nested_is Read is = cc
nested_is Write is = cc
nested_is Mixed is = cc
nested_is Upgrade is = cc
nested_is Nested is = refl

-- ---- which ask it is

number_of : Option Which → ℕ
number_of (Some (which.Ask number)) = number
number_of _ = 0

is_last : (a b d : Bool) (number k : ℕ) → cond a (Some which.First) (cond b (Some which.Rise) (cond d (Some (which.Ask number)) None)) ≡ Some (which.Ask k) → number ≡ k
unfolding number_of
is_last true b d number k is = cc
is_last false true d number k is = cc
is_last false false true number k is = ap number_of is
is_last false false false number k is = cc

module _ (groups : ReadGroups) (seats cap : ℕ) (before : List Event) (e : Event) (rest : List Event)
    (accepted : AreAccepted (opening groups seats cap) before) (comes : Comes (after (opening groups seats cap) before) e)
    (behind : AreAccepted (opening groups seats cap) (before ++ e ∷ [])) (whole : AreAccepted (opening groups seats cap) ((before ++ e ∷ []) ++ rest)) where
  abbrev o : LockState
  o = opening groups seats cap

  abbrev now : LockState
  now = after o before

  abbrev es : List Event
  es = before ++ e ∷ []

  abbrev all : List Event
  all = es ++ rest

  reached : IsReached now
  reached = reached_after o before (reached_opening groups seats cap) accepted

  module _ (x : Claimed) (there : Among x now.claims) where
    abbrev seat : ℕ
    seat = x.claim.seat

    below : seat < seats
    below = subst (λ n. seat < n) (sizes_after o before).seats (all_at (λ (y : Claimed). y.claim.seat < now.seats) now.claims x reached.sound.seated there)

    known : IsKnown before x
    known = known_claims groups seats cap before accepted x there

    -- the event is not an issue of the seat
    no_issue : is_issue_of seat e ≡ false
    no_issue = at e comes
      where
        at : (e : Event) → Comes now e → is_issue_of seat e ≡ false
        at (Issue s r) comes = not_of now s x (seat_is_idle now s r comes.accepted) there
        at (Finish s) comes = refl
        at (event.Rise s) comes = refl
        at (event.Ask s part) comes = refl

    -- and where an ask of the seat is pending, the event is not an ask of it
    no_ask : nat_lt 0 (len x.asked) ≡ true → (parts : List Set) → more_asked seat parts e ≡ parts
    no_ask pending parts = at e comes no_issue
      where
        at : (e : Event) → Comes now e → is_issue_of seat e ≡ false → more_asked seat parts e ≡ parts
        at (Issue s r) comes off = ap (λ b. cond b [] parts) off
        at (Finish s) comes off = refl
        at (event.Rise s) comes off = refl
        at (event.Ask s part) comes off = ap (λ b. cond b (parts ++ part ∷ []) parts) other
          where
            or_parts : (a b : Bool) → (a || b) ≡ false → b ≡ false
            or_parts true b h = contrary true refl h
            or_parts false b h = h

            none : has_ask now.claims s ≡ false
            none = let first : is_not_holding now.claims s ≡ false = (passed _ _ _ comes.accepted).0 in or_parts (is_nothing (holds_of now.claims s)) (has_ask now.claims s) first

            other : (s == seat) ≡ false
            other =
                false_from (s == seat)
                (λ h.
                contrary ((seat == s) && nat_lt 0 (len x.asked)) (and_from _ _ (eq-eqb seat s (sym (eqb-true s seat h))) pending)
                (none_among (λ (y : Claimed). (y.claim.seat == s) && nat_lt 0 (len y.asked)) now.claims x none there))

    -- its request is still the last one of its seat
    abbrev r : RequestFields
    r = known.request.0

    of_last : IsOfLast es x.claim r
    of_last = of_last_on before e x.claim r no_issue known.request.1

    abbrev place : ℕ
    place = shape_index (shapes_told es) seat r

    placed : place_of es seat ≡ place
    placed = ap (place_among (shapes_told es) seat) of_last.last

    found : (s : Shape) × (slice_get (shapes_told es) place ≡ Some s) × (has_shape seat r s ≡ true)
    found = shape_found (shapes_told es) seat r (last_known seat es r of_last.last)

    later : (y : Shape) × (slice_get (shapes_told all) place ≡ Some y) × HasBecome found.0 y
    later = shapes_stay rest es place found.0 found.1

    -- its request in the whole history
    abbrev number : ℕ
    number = number_from all x.claim.stamp seat

    abbrev n : RequestNeeds
    n = record { request = r; asks = asks_behind all x.claim.stamp seat }

    request_there : slice_get (requests_of (history_needs seats all) seat) number ≡ Some n
    request_there = ap (λ (ns : List RequestNeeds). slice_get ns number) (requests_by seats all seat below) ∙ request_asks all x.claim.stamp seat r (of_last.at rest)

    kind_there : kind_at (history_needs seats all) seat number ≡ Some r.kind
    kind_there = ap (option_map (λ (m : RequestNeeds). m.request.kind)) request_there

    has : has_shape seat n.request later.0 ≡ true
    has = later.2.has seat r ∙ found.2

    -- the bound of each of its waits is that of the same wait of its shape
    same_bound : (w other : Which) → IsSameWait n.asks w later.0.asks other
        → bound_of (record { groups = groups; tasks = needs_of_shapes seats (shapes_told all) }) cap (task_at (shapes_told all) place) (number_before (shapes_told all) (task_at (shapes_told all) place) place) other
        ≡ bound_of (record { groups = groups; tasks = history_needs seats all }) cap seat number w
    same_bound w other same =
        (λ i. bound_of (record { groups = groups; tasks = needs_of_shapes (sym (as_many seats all) i) (shapes_told all) }) cap (task i) (number_before (shapes_told all) (task i) place) other)
        ∙ sym (bounds_are_of_shapes groups (history_needs seats all) (shapes_told all) (needs_fine o all whole) (have_shapes o all whole) cap seat number place n later.0 w other request_there later.1 has same)
      where
        task : task_at (shapes_told all) place ≡ later.0.task
        task = task_is (shapes_told all) place later.0 later.1

    -- ---- an ask

    module _ (waits : waits_for_ask now.claims x ≡ true) where
      pending : nat_lt 0 (len x.asked) ≡ true
      pending = (and_parts (not (is_nothing (held_by x))) (nat_lt 0 (len x.asked)) waits).1

      still : IsKnown es x
      still = known_on before e x known no_issue (no_ask pending (asked_since seat before))

      pending_ask : AskWaits x.claim x.asked now.claims
      pending_ask =
          let stands : StandsAs waits_for_ask x.claim now.claims = record { at = x; among = there; is = refl; passes = waits } in
          ask_waits now reached x.claim x.asked stands refl

      asked : (first : List Set) × (asked_since seat before ≡ first ++ x.asked ∷ [])
      asked =
          let w = pending_ask in
          let same : w.at ≡ x = one_claim now reached w.at x w.among there w.is in
          known.asks.last (λ none. w.holds_some (ap (λ (y : Claimed). y.granted) same ∙ none)) w.some

      asked_now : asked_since seat es ≡ asked.0 ++ x.asked ∷ []
      asked_now = asked_push seat before e ∙ no_ask pending (asked_since seat before) ∙ asked.1

      -- the number of the ask among those of its request
      ask_there : slice_get n.asks (last_ask before x.claim) ≡ Some x.asked
      ask_there =
          let count = ap length (sym asked.1) ∙ asked_count seat before in
          let long = length-append asked.0 (x.asked ∷ []) in
          let at : last_ask before x.claim ≡ length asked.0 = omega (arith, count, long) in
          let asks : n.asks ≡ (asked.0 ++ x.asked ∷ []) ++ history.asks_of seat rest = still.asks.behind rest ∙ ap (λ (parts : List Set). parts ++ history.asks_of seat rest) asked_now in
          (λ i. slice_get (asks i) (at i)) ∙ last_at asked.0 x.asked (history.asks_of seat rest)

      -- its set is among those that its shape asks for by now
      part_there : Among x.asked found.0.asks
      part_there =
          let m : RequestNeeds = record { request = r; asks = asks_behind (es ++ []) x.claim.stamp seat } in
          let asks : m.asks ≡ (asked.0 ++ x.asked ∷ []) ++ [] = still.asks.behind [] ∙ ap (λ (parts : List Set). parts ++ []) asked_now in
          let accepted_now = subst (AreAccepted o) (sym (append-nil es)) behind in
          let request = ap (λ (ns : List RequestNeeds). slice_get ns (number_from (es ++ []) x.claim.stamp seat)) (requests_by seats (es ++ []) seat below) ∙ request_asks (es ++ []) x.claim.stamp seat r (of_last.at []) in
          let shapes = have_shapes o (es ++ []) accepted_now in
          let told = shapes.told seat m (at_among (requests_of (history_needs seats (es ++ [])) seat) (number_from (es ++ []) x.claim.stamp seat) m request) in
          let same_shapes : shapes_told (es ++ []) ≡ shapes_told es = ap (λ (ds : List Event). shapes_told ds) (append-nil es) in
          let here : Among found.0 (shapes_told (es ++ [])) = subst (Among found.0) (sym same_shapes) (at_among (shapes_told es) place found.0 found.1) in
          let same : told.0 ≡ found.0 = one_only (shapes_told (es ++ [])) seat r told.0 found.0 shapes.different told.1 here told.2.same found.2 in
          subst (λ (s : Shape). Among x.asked s.asks) same
          (told.2.asks x.asked (subst (Among x.asked) (sym (asks ∙ append-nil (asked.0 ++ x.asked ∷ []))) (among_behind asked.0 (x.asked ∷ []) x.asked (inl refl))))

      -- and it has this number among them, now and later
      numbered : ask_of es seat ≡ ask_index (shapes_told es) place x.asked
      numbered = (λ i. ask_among (shapes_told es) seat (of_last.last i) (last_asked seat asked.0 x.asked es asked_now i))

      number_there : slice_get later.0.asks (ask_of es seat) ≡ Some x.asked
      number_there =
          let parts = parts_at (shapes_told es) place found.0 found.1 in
          (λ i. slice_get (later.2.asks i) ((numbered ∙ ap (position_or_len (equals x.asked)) parts) i))
          ∙ found_still found.0.asks later.2.more (position_or_len (equals x.asked) found.0.asks) x.asked (part_found found.0.asks x.asked part_there)

    last_is : (i : ℕ) → wait_of before now.claims x ≡ Some (which.Ask i) → last_ask before x.claim ≡ i
    last_is i told = is_last (waits_first now.claims x) (waits_to_rise now.claims x) (waits_for_ask now.claims x) (last_ask before x.claim) i told

    -- its request may have the wait
    may_have : (k : Which) → wait_of before now.claims x ≡ Some k → MayHave (history_needs seats all) seat number k
    may_have which.First told = subst (λ (o : Option Kind). IsSome o) (sym kind_there) refl
    may_have which.Rise told =
        let risen = and_parts (is_rising_half x.claim && not (has_read_claim now.claims x.claim)) (not (is_satisfied x)) (waits_told before now.claims x which.Rise told) in
        let half = (and_parts (is_rising_half x.claim) (not (has_read_claim now.claims x.claim)) risen.0).0 in
        kind_there ∙ ap Some (sym of_last.kind ∙ upgrade_is x.claim.kind (and_parts (is_upgrade x.claim.kind) x.claim.write_half half).0)
    may_have (which.Ask i) told =
        let waits = waits_told before now.claims x (which.Ask i) told in (
          kind_there ∙ ap Some (sym of_last.kind ∙ nested_is x.claim.kind (pending_ask waits).nested),
          subst (λ (parts : List Set). i < length parts) (ap asks_of_request (sym request_there))
              (slice_get_within n.asks i x.asked (subst (λ j. slice_get n.asks j ≡ Some x.asked) (last_is i told) (ask_there waits))),
        )

    -- *What is found by the key of a wait is its bound*
    found_by : (k : Which) → wait_of before now.claims x ≡ Some k → (numbers : Numbers) → IsFound groups seats cap es all (wait_end k x.claim numbers)
    found_by k told numbers = record {
      seated = below;
      foreseen = may_have k told;
      within = subst (λ p. p < length (shapes_told all)) (sym placed) (slice_get_within (shapes_told all) place later.0 later.1);
      bound = subst (λ p. IsBoundAt p) (sym placed) (by k told);
    }
      where
        IsBoundAt : ℕ → Type 0
        IsBoundAt p =
            bound_of (record { groups = groups; tasks = needs_of_shapes seats (shapes_told all) }) cap (task_at (shapes_told all) p) (number_before (shapes_told all) (task_at (shapes_told all) p) p) (with_ask_number k (ask_of es seat))
            ≡ bound_of (record { groups = groups; tasks = history_needs seats all }) cap seat number k

        by : (k : Which) → wait_of before now.claims x ≡ Some k
            → bound_of (record { groups = groups; tasks = needs_of_shapes seats (shapes_told all) }) cap (task_at (shapes_told all) place) (number_before (shapes_told all) (task_at (shapes_told all) place) place) (with_ask_number k (ask_of es seat))
            ≡ bound_of (record { groups = groups; tasks = history_needs seats all }) cap seat number k
        by which.First told = same_bound which.First which.First refl
        by which.Rise told = same_bound which.Rise which.Rise refl
        by (which.Ask i) told =
            let waits = waits_told before now.claims x (which.Ask i) told in
            same_bound (which.Ask i) (which.Ask (ask_of es seat))
            (ask_of es seat, x.asked, refl, subst (λ j. slice_get n.asks j ≡ Some x.asked) (last_is i told) (ask_there waits), number_there waits)

  from_wait : (m : Moment) (x : Claimed) → Among x now.claims → (p : Option Which) → wait_of before now.claims x ≡ p → (w : WaitEnd) → ended_if before (moments o before) m x p ≡ Some w → IsFound groups seats cap es all w
  from_wait m x there None told w is = some_none (sym is)
  from_wait m x there (Some k) told w is = subst (IsFound groups seats cap es all) (goes_on _ _ w is) (found_by x there k told _)
    where
      goes_on : (b : Bool) (v w : WaitEnd) → cond b None (Some v) ≡ Some w → v ≡ w
      goes_on true v w h = some_none (sym h)
      goes_on false v w h = some_is h

-- *What is found by the key of a wait that the last event ended is its bound, by the needs of any longer history*
pub is_found : (groups : ReadGroups) (seats cap : ℕ) (events rest : List Event) (w : WaitEnd) → AreAccepted (opening groups seats cap) (events ++ rest) → IsLastEnded groups seats cap events w → IsFound groups seats cap events (events ++ rest) w
is_found groups seats cap events rest w whole ended =
    let o = opening groups seats cap in
    let now = (after o ended.before).claims in
    let behind : AreAccepted o (ended.before ++ ended.last ∷ []) = subst (AreAccepted o) ended.split ended.accepted in
    let parts = accepted_parts o ended.before (ended.last ∷ []) behind in
    let found = among_filter_map (λ x. ended_if ended.before (moments o ended.before) (next (after o ended.before) ended.last).claims x (wait_of ended.before now x)) now w ended.ended in
    subst (λ (ds : List Event). IsFound groups seats cap ds (ds ++ rest) w) (sym ended.split)
    (from_wait groups seats cap ended.before ended.last rest parts.0 parts.1.0 behind (subst (λ (ds : List Event). AreAccepted o (ds ++ rest)) ended.split whole) (next (after o ended.before) ended.last).claims found.0 found.1 (wait_of ended.before now found.0) refl w found.2)

-- by the events so far
found_now : (groups : ReadGroups) (seats cap : ℕ) (events : List Event) (w : WaitEnd) → IsLastEnded groups seats cap events w → IsFound groups seats cap events (events ++ []) w
found_now groups seats cap events w ended = is_found groups seats cap events [] w (subst (AreAccepted (opening groups seats cap)) (sym (append-nil events)) ended.accepted) ended

-- such a wait is of an existing seat
pub ended_seat : (groups : ReadGroups) (seats cap : ℕ) (events : List Event) (w : WaitEnd) → IsLastEnded groups seats cap events w → w.seat < seats
ended_seat groups seats cap events w ended = (found_now groups seats cap events w ended).seated

-- and its key is of an existing shape
pub ended_shape : (groups : ReadGroups) (seats cap : ℕ) (events : List Event) (w : WaitEnd) → IsLastEnded groups seats cap events w → place_of events w.seat < length (shapes_told events)
ended_shape groups seats cap events w ended =
    subst (λ (ds : List Event). place_of events w.seat < length (shapes_told ds)) (append-nil events) (found_now groups seats cap events w ended).within
