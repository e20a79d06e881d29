-- What each lock state has that accepted events lead to, and how long a request holds what it holds.
use Rattle.std.specs.Prelude.{◌≡◌, ◌<◌, ◌≤◌, ℕ, Bool, true, false, ◌==◌, List, ◌++◌}
use Rattle.std.specs.List.{AllByRecursion}
use Rattle.rset.specs.Sets.{all_below, meets}
use Rattle.rexpand.specs.Groups.{ReadGroups, are_groups}
use Rattle.rclaim.specs.Requests.{RequestFields}
use Rattle.rclaim.specs.declared.event.Event.{Event}
use Rattle.rclaim.specs.declared.event.Event.TheVariants.{Issue, Finish, Rise, Ask}
use Rattle.rmodel.specs.declared.claimed.Claimed.{Claimed}
use Rattle.rmodel.specs.Holds.{holds_of, has_request, is_within}
use Rattle.rmodel.specs.State.{LockState, opening}
use Rattle.rmodel.specs.Steps.{Accepts, after, incomplete_of, AreAccepted}

-- the sets of a claim lie within the resources; so do its places, where the groups do
pub record IsBelow (groups : ReadGroups) (x : Claimed) : Type 0 where
  pub reads : all_below groups.q x.claim.reads ≡ true
  pub writes : all_below groups.q x.claim.writes ≡ true
  pub places : are_groups groups ≡ true → all_below groups.q x.claim.places ≡ true
  pub asked : all_below groups.q x.asked ≡ true
  pub granted : all_below groups.q x.granted ≡ true

-- claims lie within the resources: this holds after any list of accepted events
abbrev pub ClaimsAreBelow : Type 0
ClaimsAreBelow =
    (groups : ReadGroups) (seats cap : ℕ) (events : List Event) → AreAccepted (opening groups seats cap) events → AllByRecursion (IsBelow groups) (after (opening groups seats cap) events).claims

-- what a request holds for reading, it does not hold for writing
abbrev pub HoldsOneWay : LockState → ℕ → Type 0
HoldsOneWay s seat = meets (holds_of s.claims seat).reads (holds_of s.claims seat).writes ≡ false

-- a resource is held in one way: this holds after any list of accepted events
abbrev pub HeldOneWay : Type 0
HeldOneWay = (groups : ReadGroups) (seats cap : ℕ) (events : List Event) (seat : ℕ) → AreAccepted (opening groups seats cap) events → HoldsOneWay (after (opening groups seats cap) events) seat

-- where a seat is idle, fewer requests are incomplete than there are seats;
-- so where the cap is at least the number of seats, each issue of the seat is accepted
pub record HasRoomFor (s : LockState) (seat : ℕ) : Type 0 where
  pub fewer : incomplete_of s < s.seats
  pub accepted : (r : RequestFields) → s.seats ≤ s.cap → Accepts s (Issue seat r)

-- an idle seat has room: this holds after any list of accepted events
abbrev pub IdleSeatsHaveRoom : Type 0
IdleSeatsHaveRoom =
    (groups : ReadGroups) (seats cap : ℕ) (events : List Event) (seat : ℕ) → AreAccepted (opening groups seats cap) events
    → seat < seats → has_request (after (opening groups seats cap) events).claims seat ≡ false → HasRoomFor (after (opening groups seats cap) events) seat

-- the event gives back what the request of a seat holds, or a part of that: it is the seat's finish or rise
abbrev pub gives_back : ℕ → Event → Bool
gives_back seat (Issue other r) = false
gives_back seat (Finish other) = other == seat
gives_back seat (Rise other) = other == seat
gives_back seat (Ask other part) = false

-- what is held stays held: what a request holds after some events, it still holds after more, until its own finish or rise
abbrev pub HeldUntilGivenBack : Type 0
HeldUntilGivenBack =
    (groups : ReadGroups) (seats cap : ℕ) (events more : List Event) (seat : ℕ) → AreAccepted (opening groups seats cap) (events ++ more)
    → AllByRecursion (λ e. gives_back seat e ≡ false) more
    → is_within (holds_of (after (opening groups seats cap) events).claims seat) (holds_of (after (opening groups seats cap) (events ++ more)).claims seat) ≡ true
