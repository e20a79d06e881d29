-- What an event makes of what is noted of seats: which of them wait, ask and read after it, and what they read.
use Rattle.std.specs.Prelude.{◌==◌, ℕ, Bool, true, false, nat_lt, not, ◌&&◌, ◌||◌, List, [], if◌then◌else◌}
use Rattle.std.specs.List.{list_any}
use Rattle.std.specs.FinSet.{empty, insert, is_subset, len, remove}
use Rattle.rset.specs.Sets.{Set}
use Rattle.rclaim.specs.declared.event.Event.{Event}
use Rattle.rclaim.specs.declared.event.Event.TheVariants.{Issue, Finish, Rise, Ask}
use Rattle.rclaim.specs.declared.request.Kind.{Kind}
use Rattle.rclaim.specs.declared.request.Kind.TheVariants.{Read, Write, Mixed, Upgrade, Nested}
use Rattle.rmodel.specs.declared.claimed.Claimed.{Claimed}
use Rattle.rmodel.specs.Claims.{is_satisfied}
use Rattle.rcover_laws.specs.declared.wait_end.WaitEnd.{WaitEnd}
use Rattle.rcover_laws.specs.Moments.{Moment}
use Rattle.rcover_laws.specs.Told.{waits_first}
use Rattle.rcover.specs.Lines.{set_at}
use Rattle.rcover.specs.Past.{is_issue}
use Rattle.rcover.specs.NotedSeats.{some_wait}

-- some claim of a seat is in a wait, or asks for something
abbrev pub seat_waits : Moment → ℕ → Bool
seat_waits n seat = list_any (λ x. (x.claim.seat == seat) && some_wait n x) n

-- seats, with one of them in or out as it waits or not
abbrev pub with_seat : Set → Moment → ℕ → Set
with_seat seats n seat = if seat_waits n seat then insert seats seat else remove seats seat

-- seats, with that of an upgrade that rises, and without that of a request that comes or is over
abbrev pub risen_by : Set → Event → Set
risen_by seats (Issue seat r) = remove seats seat
risen_by seats (Finish seat) = remove seats seat
risen_by seats (Rise seat) = insert seats seat
risen_by seats (Ask seat part) = seats

-- a claim is in a wait or asks for something; the flag says whether the upgrade of its seat rose
abbrev pub waits_by : Bool → Claimed → Bool
waits_by rose x = (waits_first [] x || (rose && not (is_satisfied x))) || nat_lt 0 (len x.asked)

-- seats, with that of a request that asks, and without that of one that comes or is over
abbrev pub asked_by : Set → Event → Set
asked_by seats (Issue seat r) = remove seats seat
asked_by seats (Finish seat) = remove seats seat
asked_by seats (Rise seat) = seats
asked_by seats (Ask seat part) = insert seats seat

-- a request of this kind has a claim that reads
abbrev pub has_read : Kind → Bool
has_read Read = true
has_read Write = false
has_read Mixed = false
has_read Upgrade = true
has_read Nested = false

-- seats, with that of a request that comes and reads, and without that of any other that comes, of an upgrade that rises, and of a request that is over
abbrev pub reading_by : Set → Event → Set
reading_by seats (Issue seat r) = if has_read r.kind then insert seats seat else remove seats seat
reading_by seats (Finish seat) = remove seats seat
reading_by seats (Rise seat) = remove seats seat
reading_by seats (Ask seat part) = seats

-- what is noted of a seat: for that of a request that comes, what it reads
abbrev pub wanted_by : List Set → Event → ℕ → Set
wanted_by wanted (Issue seat r) other = if other == seat then r.reads else set_at wanted other
wanted_by wanted (Finish seat) other = set_at wanted other
wanted_by wanted (Rise seat) other = set_at wanted other
wanted_by wanted (Ask seat part) other = set_at wanted other

-- one of these waits was of a seat
abbrev pub has_end : List WaitEnd → ℕ → Bool
has_end ends seat = list_any (λ w. w.seat == seat) ends

-- the place from which the claims of the event's seat are found, given how many claims were there and how many are there now: those of an issue come
-- after all that were there, and a finish leaves none
abbrev pub first_of : Event → ℕ → ℕ → ℕ
first_of (Issue seat r) there all = there
first_of (Finish seat) there all = all
first_of (Rise seat) there all = 0
first_of (Ask seat part) there all = 0

-- an event ends no wait: it is an issue, or no seat waits
abbrev pub ends_none : Set → Event → Bool
ends_none seats e = is_issue e || is_subset seats empty
