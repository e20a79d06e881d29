-- A drill, event by event: every event may come, and what is kept beside the machine is right.
use Rattle.std.proofs.Common.{◌≡◌, ℕ, zero, suc, ◌+◌, ◌<◌, ◌≤◌, ◌^◌, ◌%◌, ◌==◌, Bool, true, false, cond, List, [], ◌∷◌, ◌++◌, map, length, Option, Some, None, refl, sym, ap, subst, ◌∙◌, arith, add-one, length-append}
use Rattle.std.specs.Prelude.{is_some}
use Rattle.std.specs.FinSet.{difference}
use Rattle.rset.specs.Sets.{equals}
use Rattle.rmodel.specs.Holds.{holds_of, has_request}
use Rattle.rdrill.specs.Drill.{all_held}
use Rattle.rmodel.specs.Changes.{changes_between, status_in}
use Rattle.std.proofs.Math.Nat.{mod-lt}
use Rattle.std.specs.List.{AllByRecursion}
use Rattle.rclaim.specs.Changes.{ChangeLists}
use Rattle.rclaim.specs.Requests.{RequestFields}
use Rattle.rclaim.specs.declared.request.Kind.{Kind}
use Rattle.rclaim.specs.declared.request.Kind.TheVariants.{Read, Write, Mixed, Upgrade, Nested}
use Rattle.rclaim.specs.declared.event.Event.{Event}
use Rattle.rclaim.specs.declared.event.Event.TheVariants.{Issue, Finish, Rise, Ask}
use Rattle.rmodel.specs.declared.claimed.Claimed.{Claimed}
use Rattle.rmodel.specs.Reached.{IsReached}
use Rattle.rmodel.specs.State.{LockState}
use Rattle.rmodel.specs.Steps.{Comes, AreAccepted, next, after}
use Rattle.rmodel.proofs.reaching.Histories.{sizes_after, issued_after, after_push, accepted_push, steps_push}
use Rattle.rmodel.proofs.reaching.Reached.{reached_after, reached_opening}
use Rattle.rdrill.specs.Draws.{next_draw, drill_groups, drill_opening, kind_drawn}
use Rattle.rdrill.specs.Drill.{Drawn, drawn_issue, drawn_by, drawn_holding, drawn_for, drawn_in, seat_drawn, Drill, drawn, one_more, drill_of, drill_events, latest_after, latest_of, at_seat, IsAt}
use Rattle.rmodel.specs.Watching.{steps_of}
use Rattle.rwatch.specs.Seen.{Seen, told, told_all}
use Rattle.rwatch.proofs.Given.{given_push}
use Rattle.rdrill.proofs.Latest.{HasLatest, latest_push, latest_next}
use Rattle.rdrill.proofs.DrawnRequests.{IsDrawn}
use Rattle.rdrill.proofs.Coming.{comes_in}

-- what holds of the events of a drill
record Keeps (events : List Event) : Type 0 where
  accepted : AreAccepted drill_opening events
  has : AllByRecursion (λ (x : Claimed). HasLatest events x.claim) (after drill_opening events).claims
  ones : (seat : ℕ) (r : RequestFields) → latest_of events seat ≡ Some r → IsDrawn r

reached_of : (events : List Event) → AreAccepted drill_opening events → IsReached (after drill_opening events)
reached_of events accepted = reached_after drill_opening events (reached_opening drill_groups 8 8) accepted

comes_drawn : (d : Drill) → length d.events < 2 ^ 62 → Keeps d.events → Comes (after drill_opening d.events) (drawn d).event
comes_drawn d few keeps =
    let sizes = sizes_after drill_opening d.events in
    comes_in (after drill_opening d.events) d.events (reached_of d.events keeps.accepted) sizes.groups sizes.seats sizes.cap (stamps (issued_after drill_opening d.events) few) keeps.has keeps.ones d.x
  where
    stamps : {n k : ℕ} → k ≤ 0 + n → n < 2 ^ 62 → k < 2 ^ 63
    stamps le less = omega (arith, le, less)

-- ---- what is issued was drawn

abbrev IssuesDrawn : Event → Type 0
IssuesDrawn (Issue seat r) = IsDrawn r
IssuesDrawn (Finish seat) = Unit {0}
IssuesDrawn (Rise seat) = Unit {0}
IssuesDrawn (Ask seat part) = Unit {0}

issues_by : (k : Kind) (s : LockState) (r : RequestFields) (seat x : ℕ) → IssuesDrawn (drawn_by k s r seat x).event
issues_by Read s r seat x = tt
issues_by Write s r seat x = tt
issues_by Mixed s r seat x = tt
issues_by Upgrade s r seat x = at (is_some (status_in s.claims seat false)) (next_draw x % 2 == 0)
  where
    at : (a b : Bool) → IssuesDrawn (cond {A = Drawn} a (record { event = cond b (Rise seat) (Finish seat); x = next_draw x }) (record { event = Finish seat; x = x })).event
    at true true = tt
    at true false = tt
    at false b = tt
issues_by Nested s r seat x = at (equals (all_held (holds_of s.claims seat)) r.first) (next_draw x % 2 == 0)
  where
    at : (a b : Bool) → IssuesDrawn (cond {A = Drawn} a (record { event = cond b (Ask seat (difference r.writes r.first)) (Finish seat); x = next_draw x }) (record { event = Finish seat; x = x })).event
    at true true = tt
    at true false = tt
    at false b = tt

issues_holding : (s : LockState) (o : Option RequestFields) (seat x : ℕ) → IssuesDrawn (drawn_holding s o seat x).event
issues_holding s None seat x = tt
issues_holding s (Some r) seat x = issues_by r.kind s r seat x

issues_for : (s : LockState) (o : Option RequestFields) (seat x : ℕ) → IssuesDrawn (drawn_for s o seat x).event
issues_for s o seat x = at (has_request s.claims seat)
  where
    at : (b : Bool) → IssuesDrawn (cond b (drawn_holding s o seat x) (drawn_issue seat x)).event
    at true = issues_holding s o seat x
    at false = record { kind = kind_drawn (next_draw x % 5); l = next_draw (next_draw x) % 7; small = mod-lt (next_draw (next_draw x)) (omega arith); is = refl }

the_request : (a b : RequestFields) → Some a ≡ Some b → a ≡ b
the_request a b h = cc

latest_drawn : (e : Event) (seat : ℕ) (before : Option RequestFields) (r : RequestFields) → IssuesDrawn e → ((q : RequestFields) → before ≡ Some q → IsDrawn q) → latest_after seat before e ≡ Some r → IsDrawn r
latest_drawn (Issue other q) seat before r drawn old is = at (other == seat) is
  where
    at : (b : Bool) → cond b (Some q) before ≡ Some r → IsDrawn r
    at true h = subst IsDrawn (the_request q r h) drawn
    at false h = old r h
latest_drawn (Finish other) seat before r drawn old is = old r is
latest_drawn (Rise other) seat before r drawn old is = old r is
latest_drawn (Ask other part) seat before r drawn old is = old r is

-- ---- one more event

keeps_next : (d : Drill) → length d.events < 2 ^ 62 → Keeps d.events → Keeps (one_more d).events
unfolding one_more
keeps_next d few keeps =
    let e = (drawn d).event in
    let comes = comes_drawn d few keeps in
    record {
      accepted = accepted_push drill_opening d.events e keeps.accepted comes;
      has = subst (λ (t : LockState). AllByRecursion (λ (x : Claimed). HasLatest (d.events ++ e ∷ []) x.claim) t.claims) (sym (after_push drill_opening d.events e))
          (latest_next (after drill_opening d.events) d.events keeps.has e (reached_of d.events keeps.accepted) comes);
      ones = λ seat r is.
          latest_drawn e seat (latest_of d.events seat) r (issues_for (after drill_opening d.events) (latest_of d.events (seat_drawn (after drill_opening d.events) d.x)) (seat_drawn (after drill_opening d.events) d.x) (next_draw d.x))
          (keeps.ones seat) (sym (latest_push d.events e seat) ∙ is);
    }

long_next : (d : Drill) (n : ℕ) → length d.events ≡ n → length (one_more d).events ≡ suc n
unfolding one_more
long_next d n is = length-append d.events ((drawn d).event ∷ []) ∙ grows (length d.events) n is
  where
    grows : (k n : ℕ) → k ≡ n → k + 1 ≡ suc n
    grows k n h = omega (arith, h)

pub long : (n : ℕ) → length (drill_events n) ≡ n
long zero = refl
long (suc n) = long_next (drill_of n) n (long n)

keeps : (n : ℕ) → n < 2 ^ 62 → Keeps (drill_events n)
keeps zero few = record { accepted = tt; has = tt; ones = λ seat r h. cc }
keeps (suc n) few = keeps_next (drill_of n) (subst (λ k. k < 2 ^ 62) (sym (long n)) (less n few)) (keeps n (less n few))
  where
    less : (n : ℕ) → suc n < 2 ^ 62 → n < 2 ^ 62
    less n h = omega (arith, h)

-- each of them is accepted
pub all_accepted : (n : ℕ) → n < 2 ^ 62 → AreAccepted drill_opening (drill_events n)
all_accepted n few = (keeps n few).accepted

-- the next event may come in the state
pub comes_next : (n : ℕ) → n < 2 ^ 62 → Comes (after drill_opening (drill_events n)) (drawn (drill_of n)).event
comes_next n few = comes_drawn (drill_of n) (subst (λ k. k < 2 ^ 62) (sym (long n)) few) (keeps n few)

-- ---- what is kept beside the machine

-- the event drawn by what is kept is the event of the drill
pub drawn_is : (n : ℕ) (s : LockState) (x : ℕ) (latest : List (Option RequestFields)) → IsAt n s x latest → drawn_in s (at_seat latest) x ≡ drawn (drill_of n)
drawn_is n s x latest at =
    (λ i. drawn_for s (at.latest_are (seat_drawn s x) i) (seat_drawn s x) (next_draw x)) ∙ (λ i. drawn_in (at.state i) (latest_of (drill_events n)) (at.x_is i))

pub at_start : (latest : List (Option RequestFields)) → length latest ≡ 8 → ((seat : ℕ) → at_seat latest seat ≡ None) → IsAt 0 drill_opening 1 latest
at_start latest seats none = record { state = refl; x_is = refl; small = omega arith; seats = seats; latest_are = none }

-- no seat has issued a request
abbrev pub no_requests : List (Option RequestFields)
no_requests = None ∷ None ∷ None ∷ None ∷ None ∷ None ∷ None ∷ None ∷ []

none_yet : (seat : ℕ) → at_seat no_requests seat ≡ None
none_yet zero = refl
none_yet (suc zero) = refl
none_yet (suc (suc zero)) = refl
none_yet (suc (suc (suc zero))) = refl
none_yet (suc (suc (suc (suc zero)))) = refl
none_yet (suc (suc (suc (suc (suc zero))))) = refl
none_yet (suc (suc (suc (suc (suc (suc zero)))))) = refl
none_yet (suc (suc (suc (suc (suc (suc (suc zero))))))) = refl
none_yet (suc (suc (suc (suc (suc (suc (suc (suc seat)))))))) = refl

untold : (ws : List Seen) → map (told_all []) ws ≡ ws
untold [] = refl
untold (w ∷ ws) = ap (λ vs. w ∷ vs) (untold ws)

-- a drill after n events, whose steps the audience was given
pub record IsToldTo (n : ℕ) (s : LockState) (x : ℕ) (latest : List (Option RequestFields)) (first ws : List Seen) : Type 0 where
  pub at : IsAt n s x latest
  pub told_so : ws ≡ map (told_all (steps_of drill_opening (drill_events n))) first

pub told_start : (s : LockState) (ws : List Seen) → s ≡ drill_opening → IsToldTo 0 s 1 no_requests ws ws
told_start s ws is = record { at = subst (λ t. IsAt 0 t 1 no_requests) (sym is) (at_start no_requests refl none_yet); told_so = sym (untold ws) }

-- with one more event
pub at_next : (n : ℕ) (s t : LockState) (x y : ℕ) (latest now : List (Option RequestFields)) (e : Event) → IsAt n s x latest → record { event = e; x = y } ≡ drawn_in s (at_seat latest) x → y < 65537
    → t ≡ next s e → length now ≡ 8 → ((seat : ℕ) → at_seat now seat ≡ latest_after seat (at_seat latest seat) e) → IsAt (n + 1) t y now
unfolding one_more
at_next n s t x y latest now e at is small steps seats latest_are = subst (λ (m : ℕ). IsAt m t y now) (sym (add-one n)) (more (is ∙ drawn_is n s x latest at))
  where
    more : record { event = e; x = y } ≡ drawn (drill_of n) → IsAt (suc n) t y now
    more h =
        let same : e ≡ (drawn (drill_of n)).event = ap (λ (d : Drawn). d.event) h in
        record {
          state = steps ∙ (λ i. next (at.state i) (same i)) ∙ sym (after_push drill_opening (drill_events n) (drawn (drill_of n)).event);
          x_is = ap (λ (d : Drawn). d.x) h;
          small = small;
          seats = seats;
          latest_are = λ seat.
              latest_are seat ∙ (λ i. latest_after seat (at.latest_are seat i) (same i)) ∙ sym (latest_push (drill_events n) (drawn (drill_of n)).event seat);
        }

-- the event drawn by what is kept may come at the machine
pub comes_at : (n : ℕ) (s : LockState) (x y : ℕ) (latest : List (Option RequestFields)) (e : Event) → n < 2 ^ 62 → IsAt n s x latest → record { event = e; x = y } ≡ drawn_in s (at_seat latest) x → Comes s e
comes_at n s x y latest e few at is =
    let same : e ≡ (drawn (drill_of n)).event = ap (λ (d : Drawn). d.event) (is ∙ drawn_is n s x latest at) in
    subst (λ (t : LockState). Comes t e) (sym at.state) (subst (Comes (after drill_opening (drill_events n))) (sym same) (comes_next n few))

-- ---- what watchers are given

-- after one more event all were given one more step
pub told_next : (n : ℕ) (s t : LockState) (x : ℕ) (latest : List (Option RequestFields)) (first ws us : List Seen) → IsAt n s x latest → t ≡ next s (drawn (drill_of n)).event
    → ws ≡ map (told_all (steps_of drill_opening (drill_events n))) first → us ≡ map (told (drawn (drill_of n)).event (changes_between s t)) ws
    → us ≡ map (told_all (steps_of drill_opening (drill_events (n + 1)))) first
unfolding one_more
told_next n s t x latest first ws us at steps told_so tells =
    let e = (drawn (drill_of n)).event in
    let o = after drill_opening (drill_events n) in
    tells
    ∙ (λ i. map (told e (changes_between s (steps i))) (told_so i))
    ∙ (λ i. map (told e (changes_between (at.state i) (next (at.state i) e))) (map (told_all (steps_of drill_opening (drill_events n))) first))
    ∙ given_push (steps_of drill_opening (drill_events n)) (e, changes_between o (next o e)) first
    ∙ ap (λ steps. map (told_all steps) first) (sym (steps_push drill_opening (drill_events n) e))
    ∙ ap (λ m. map (told_all (steps_of drill_opening (drill_events m))) first) (sym (add-one n))

-- a step leads from where the drill was to where it is
pub step_at : (n : ℕ) (s t : LockState) (x y : ℕ) (latest now : List (Option RequestFields)) → IsAt n s x latest → IsAt (n + 1) t y now → t ≡ next s (drawn (drill_of n)).event
unfolding one_more
step_at n s t x y latest now at then =
    then.state ∙ ap (λ m. after drill_opening (drill_events m)) (add-one n) ∙ after_push drill_opening (drill_events n) (drawn (drill_of n)).event
    ∙ ap (λ u. next u (drawn (drill_of n)).event) (sym at.state)

-- with one more event
pub told_on : (n : ℕ) (s t : LockState) (x y : ℕ) (latest now : List (Option RequestFields)) (first ws us : List Seen) → IsToldTo n s x latest first ws
    → (IsAt n s x latest → IsAt (n + 1) t y now) → (IsAt n s x latest → us ≡ map (told (drawn (drill_of n)).event (changes_between s t)) ws) → IsToldTo (n + 1) t y now first us
told_on n s t x y latest now first ws us so on tells =
    let then = on so.at in
    record { at = then; told_so = told_next n s t x latest first ws us so.at (step_at n s t x y latest now so.at then) so.told_so (tells so.at) }
