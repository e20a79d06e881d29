-- Steps: which events are accepted, what an event does, and the state after a list of events.
use Rattle.std.specs.Prelude.{◌≡◌, ℕ, ◌+◌, ◌^◌, ◌<◌, ◌==◌, nat_lt, Bool, not, ◌&&◌, ◌||◌, Option, Some, None, IsTrue, List, [], ◌∷◌, ◌++◌, map, filter, if◌then◌else◌}
use Rattle.std.specs.List.{list_any, count_by}
use Rattle.std.specs.FinSet.{empty, union, len}
use Rattle.rset.specs.Sets.{Set, all_below}
use Rattle.rclaim.specs.declared.claim.Claim.{Claim}
use Rattle.rmodel.specs.declared.claimed.Claimed.{Claimed}
use Rattle.rclaim.specs.Requests.{RequestFields}
use Rattle.rclaim.specs.Events.{IsNormalEvent}
use Rattle.rclaim.specs.declared.event.Event.{Event}
use Rattle.rclaim.specs.declared.event.Event.TheVariants.{Issue, Finish, Rise, Ask}
use Rattle.rmodel.specs.declared.refused.Refused.{Refused}
use Rattle.rmodel.specs.declared.refused.Refused.TheVariants.{SeatBusy, Full, NotHolding, NotUpgradeable, NotNested, AskOutside}
use Rattle.rmodel.specs.Claims.{claims_of, conflicts_on, is_admitted, is_active, is_read_half, is_satisfied, waiting}
use Rattle.rmodel.specs.Holds.{holds_of, is_nothing, has_request, has_ask, may_rise, may_ask, is_part_of}
use Rattle.rmodel.specs.Rules.{Settles}
use Rattle.rmodel.specs.Settling.{settled}
use Rattle.rmodel.specs.State.{LockState}

-- an issue that a caller may ask for: its sets lie within the resources, it is admitted, and stamps are left
pub record FitsIssue (s : LockState) (seat : ℕ) (r : RequestFields) : Type 0 where
  pub seat_there : seat < s.seats
  pub reads : IsTrue (all_below s.groups.q r.reads)
  pub writes : IsTrue (all_below s.groups.q r.writes)
  pub admitted : IsTrue (is_admitted s.groups.groups r)
  pub stamps : s.issued < 2 ^ 63

-- an event that a caller may ask for
abbrev pub Fits : LockState → Event → Type 0
Fits s (Issue seat r) = FitsIssue s seat r
Fits s (Finish seat) = seat < s.seats
Fits s (Rise seat) = seat < s.seats
Fits s (Ask seat part) = (seat < s.seats) × IsTrue (all_below s.groups.q part)

-- the number of incomplete requests: each has one claim that is not the read half of an upgrade
abbrev pub incomplete_of : LockState → ℕ
incomplete_of s = count_by (λ x. not (is_read_half x.claim)) s.claims

-- a seat holds nothing, or an ask of it is pending
abbrev pub is_not_holding : List Claimed → ℕ → Bool
is_not_holding xs seat = is_nothing (holds_of xs seat) || has_ask xs seat

-- the possible causes against an event, in order, each with its refusal
abbrev pub causes : LockState → Event → List (Bool × Refused)
causes s (Issue seat r) = (has_request s.claims seat, SeatBusy) ∷ (incomplete_of s == s.cap, Full) ∷ []
causes s (Finish seat) = (is_not_holding s.claims seat, NotHolding) ∷ []
causes s (Rise seat) = (is_not_holding s.claims seat, NotHolding) ∷ (not (may_rise s.claims seat), NotUpgradeable) ∷ []
causes s (Ask seat part) =
    (is_not_holding s.claims seat, NotHolding) ∷ (not (may_ask s.claims seat), NotNested) ∷ (not (is_part_of s.claims seat part), AskOutside) ∷ []

-- the refusal of the first cause that applies
abbrev pub first_cause : List (Bool × Refused) → Option Refused
first_cause [] = None
first_cause (c ∷ rest) = if c.0 then Some c.1 else first_cause rest

-- why an event is refused
abbrev pub refusal : LockState → Event → Option Refused
refusal s e = first_cause (causes s e)

-- an event is accepted where no cause applies
abbrev pub Accepts : LockState → Event → Type 0
Accepts s e = refusal s e ≡ None

-- the claim asks for this part, if it is of the seat
abbrev pub asking : ℕ → Set → Claimed → Claimed
asking seat part x = if x.claim.seat == seat then record x { asked = part } else x

-- what an event does to the state before it is settled: an issue adds the claims of its request, which asks for its first part;
-- a finish removes those of its seat, a rise the read half of its seat's upgrade; an ask sets what its seat's request asks for
abbrev pub changed : LockState → Event → LockState
changed s (Issue seat r) = record s { issued = s.issued + 1; claims = s.claims ++ map (waiting r.first) (claims_of s.groups.groups s.issued seat r) }
changed s (Finish seat) = record s { claims = filter (λ x. not (x.claim.seat == seat)) s.claims }
changed s (Rise seat) = record s { claims = filter (λ x. not ((x.claim.seat == seat) && not x.claim.write_half)) s.claims }
changed s (Ask seat part) = record s { claims = map (asking seat part) s.claims }

-- some claim asks for something
abbrev pub some_asks : List Claimed → Bool
some_asks xs = list_any (λ x. nat_lt 0 (len x.asked)) xs

-- some satisfied claim conflicts with c on this part
abbrev pub is_kept_from : List Claimed → Claim → Set → Bool
is_kept_from xs c part = list_any (λ v. is_satisfied v && conflicts_on v.claim c part) xs

-- a claim gets what it asks for: it is satisfied, or it is entitled and no satisfied claim conflicts with it on that part
abbrev pub gets_asked : List Claimed → Claimed → Bool
gets_asked xs x = is_satisfied x || (is_active x && not (is_kept_from xs x.claim x.asked))

-- a claim asks for something and gets it
abbrev pub gets : List Claimed → Claimed → Bool
gets xs x = (nat_lt 0 (len x.asked) && is_active x) && gets_asked xs x

-- a claim with what it asks for granted, if it gets that
abbrev pub with_asked : List Claimed → Claimed → Claimed
with_asked xs x = if gets_asked xs x then record x { asked = empty; granted = union x.granted x.asked } else x

-- the claims of a settled list with what they ask for granted, where they get it
unfoldable pub given : List Claimed → List Claimed
given xs = map (with_asked xs) xs

-- the event leads from s to t: it is accepted, the claims are settled once after the event has changed them,
-- and then each claim that gets what it asks for is granted it
pub record Steps (s : LockState) (e : Event) (t : LockState) : Type 0 where
  pub accepted : Accepts s e
  pub settled_to : List Claimed
  pub settles : Settles (changed s e).claims settled_to
  pub others : t ≡ record (changed s e) { claims = given settled_to }

-- the state after an accepted event
abbrev pub next : LockState → Event → LockState
next s e = record (changed s e) { claims = given (settled (changed s e).claims) }

-- the state after a list of accepted events
abbrev pub after : LockState → List Event → LockState
after s [] = s
after s (e ∷ es) = after (next s e) es

-- an event may come in a state: a caller may ask for it, its request is in normal form, and it is accepted
pub record Comes (s : LockState) (e : Event) : Type 0 where
  pub fits : Fits s e
  pub normal : IsNormalEvent e
  pub accepted : Accepts s e

-- each event of the list may come in the state that those before it lead to
abbrev pub AreAccepted : LockState → List Event → Type 0
AreAccepted s [] = Unit {0}
AreAccepted s (e ∷ es) = Comes s e × AreAccepted (next s e) es
