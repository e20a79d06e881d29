-- The events of a drill: each is drawn by the state of the lock after those before it.
use Rattle.std.specs.Prelude.{ℕ, ◌+◌, ◌%◌, ◌==◌, Bool, false, not, ◌&&◌, List, [], ◌∷◌, ◌++◌, fold, Option, Some, None, is_some, unwrap_or, find, map, slice_get, length, ◌<◌, ◌≡◌, if◌then◌else◌}
use Rattle.std.proofs.Common.{zero, suc}
use Rattle.std.specs.List.{range_with_len}
use Rattle.std.specs.FinSet.{union, difference}
use Rattle.rset.specs.Sets.{Set, equals}
use Rattle.rclaim.specs.Requests.{RequestFields}
use Rattle.rclaim.specs.declared.event.Event.{Event}
use Rattle.rclaim.specs.declared.event.Event.TheVariants.{Issue, Finish, Rise, Ask}
use Rattle.rclaim.specs.declared.request.Kind.{Kind}
use Rattle.rclaim.specs.declared.request.Kind.TheVariants.{Read, Write, Mixed, Upgrade, Nested}
use Rattle.rmodel.specs.declared.granted.Granted.{Granted}
use Rattle.rmodel.specs.Changes.{status_in}
use Rattle.rmodel.specs.Holds.{holds_of, has_request}
use Rattle.rmodel.specs.State.{LockState}
use Rattle.rmodel.specs.Steps.{is_not_holding, after}
use Rattle.rdrill.specs.Draws.{drill_seats, drill_pairs, modulus, next_draw, drill_opening, kind_drawn, request_for}

-- an event that was drawn, and the drawing number after it
pub record Drawn : Type 0 where
  pub event : Event
  pub x : ℕ

-- the request that a seat issued last: that of the event if it is the seat's issue, otherwise as before
abbrev pub latest_after : ℕ → Option RequestFields → Event → Option RequestFields
latest_after seat before (Issue other r) = if other == seat then Some r else before
latest_after seat before (Finish other) = before
latest_after seat before (Rise other) = before
latest_after seat before (Ask other part) = before

abbrev pub latest_of : List Event → ℕ → Option RequestFields
latest_of events seat = fold (latest_after seat) None events

-- a seat may act: it is idle, or it holds something and has no pending ask
abbrev pub may_act : LockState → ℕ → Bool
may_act s seat = not (has_request s.claims seat && is_not_holding s.claims seat)

-- the first seat from this one upwards that may act; after the last comes the first
abbrev pub acting : LockState → ℕ → ℕ
acting s seat = unwrap_or (find (may_act s) (map (λ more. (seat + more) % drill_seats) (range_with_len 0 drill_seats))) seat

-- an idle seat issues a request: one draw gives its kind, another its resources
abbrev pub drawn_issue : ℕ → ℕ → Drawn
drawn_issue seat x = record { event = Issue seat (request_for (kind_drawn (next_draw x % 5)) (next_draw (next_draw x) % drill_pairs)); x = next_draw (next_draw x) }

-- one draw chooses between two events
abbrev pub either : Event → Event → ℕ → Drawn
either first second x = record { event = if next_draw x % 2 == 0 then first else second; x = next_draw x }

-- all that is held
abbrev pub all_held : Granted → Set
all_held g = union g.reads g.writes

-- what a seat that holds something does, by the kind of its request: an upgrade that has not risen rises or finishes, a nested request that holds
-- only its first part asks for the rest or finishes, and any other request finishes, without a draw
abbrev pub drawn_by : Kind → LockState → RequestFields → ℕ → ℕ → Drawn
drawn_by Upgrade s r seat x = if is_some (status_in s.claims seat false) then either (Rise seat) (Finish seat) x else record { event = Finish seat; x = x }
drawn_by Nested s r seat x =
    if equals (all_held (holds_of s.claims seat)) r.first then either (Ask seat (difference r.writes r.first)) (Finish seat) x
    else record { event = Finish seat; x = x }
drawn_by Read s r seat x = record { event = Finish seat; x = x }
drawn_by Write s r seat x = record { event = Finish seat; x = x }
drawn_by Mixed s r seat x = record { event = Finish seat; x = x }

abbrev pub drawn_holding : LockState → Option RequestFields → ℕ → ℕ → Drawn
drawn_holding s None seat x = record { event = Finish seat; x = x }
drawn_holding s (Some r) seat x = drawn_by r.kind s r seat x

-- what a seat does: it issues a request where it is idle
abbrev pub drawn_for : LockState → Option RequestFields → ℕ → ℕ → Drawn
drawn_for s latest seat x = if has_request s.claims seat then drawn_holding s latest seat x else drawn_issue seat x

-- a draw names a seat; the first seat from it upwards that may act does
abbrev pub seat_drawn : LockState → ℕ → ℕ
seat_drawn s x = acting s (next_draw x % drill_seats)

-- what is drawn in a state, where these are the latest requests of the seats
abbrev pub drawn_in : LockState → (ℕ → Option RequestFields) → ℕ → Drawn
drawn_in s latest x = drawn_for s (latest (seat_drawn s x)) (seat_drawn s x) (next_draw x)

-- the events so far, and the drawing number
pub record Drill : Type 0 where
  pub events : List Event
  pub x : ℕ

-- what is drawn after these events
abbrev pub drawn : Drill → Drawn
drawn d = drawn_in (after drill_opening d.events) (latest_of d.events) d.x

-- one more event
abbrev pub with_event : Drill → Drawn → Drill
with_event d more = record { events = d.events ++ more.event ∷ []; x = more.x }

unfoldable pub one_more : Drill → Drill
one_more d = with_event d (drawn d)

-- a drill of n events
abbrev pub drill_of : ℕ → Drill
drill_of zero = record { events = []; x = 1 }
drill_of (suc n) = one_more (drill_of n)

-- its events
abbrev pub drill_events : ℕ → List Event
drill_events n = (drill_of n).events

-- the latest request of a seat, in a list by seats
abbrev pub at_seat : List (Option RequestFields) → ℕ → Option RequestFields
at_seat latest seat = unwrap_or (slice_get latest seat) None

-- a drill after n events: the lock is in this state, this is the drawing number, and these are the latest requests
pub record IsAt (n : ℕ) (s : LockState) (x : ℕ) (latest : List (Option RequestFields)) : Type 0 where
  pub state : s ≡ after drill_opening (drill_events n)
  pub x_is : x ≡ (drill_of n).x
  pub small : x < modulus
  pub seats : length latest ≡ drill_seats
  pub latest_are : (seat : ℕ) → at_seat latest seat ≡ latest_of (drill_events n) seat
