-- What an event reports, and how claims go on: for every list of accepted events, and one more accepted event.
use Rattle.std.specs.Prelude.{◌≡◌, ◌≢◌, ℕ, Bool, true, not, ◌==◌, List}
use Rattle.std.specs.List.{list_any, AllByRecursion}
use Rattle.rexpand.specs.Groups.{ReadGroups}
use Rattle.rclaim.specs.declared.changes.GrantChange.{GrantChange}
use Rattle.rclaim.specs.declared.event.Event.{Event}
use Rattle.rmodel.specs.declared.claimed.Claimed.{Claimed}
use Rattle.rmodel.specs.Changes.{changes_between, AreActive}
use Rattle.rmodel.specs.Claims.{is_active, is_satisfied}
use Rattle.rmodel.specs.Holds.{holds_of, is_within}
use Rattle.rmodel.specs.State.{LockState, opening}
use Rattle.rmodel.specs.Steps.{next, after, Comes, AreAccepted}
use Rattle.rmodel.specs.WellFormed.{Among, EachPair}

-- the request of a seat holds more in t than in s
abbrev pub holds_more : LockState → LockState → ℕ → Bool
holds_more s t seat = not (is_within (holds_of t.claims seat) (holds_of s.claims seat))

-- a grant has everything that the request of its seat holds in t, and that is more than in s
pub record IsGrant (s t : LockState) (g : GrantChange) : Type 0 where
  pub more : holds_more s t g.seat ≡ true
  pub reads : g.reads ≡ (holds_of t.claims g.seat).reads
  pub writes : g.writes ≡ (holds_of t.claims g.seat).writes

-- the grants are those of the requests that hold more, one for each
pub record AreGrants (s t : LockState) (grants : List GrantChange) : Type 0 where
  pub each : AllByRecursion (IsGrant s t) grants
  pub all : (seat : ℕ) → holds_more s t seat ≡ true → list_any (λ g. g.seat == seat) grants ≡ true
  pub once : EachPair (λ g h. g.seat ≢ h.seat) grants

-- the grants are those of the requests: this holds for each accepted event, after any list of accepted events
abbrev pub GrantsAreOfRequests : Type 0
GrantsAreOfRequests =
    (groups : ReadGroups) (seats cap : ℕ) (events : List Event) (event : Event) → AreAccepted (opening groups seats cap) events → Comes (after (opening groups seats cap) events) event
    → AreGrants (after (opening groups seats cap) events) (next (after (opening groups seats cap) events) event)
    (changes_between (after (opening groups seats cap) events) (next (after (opening groups seats cap) events) event)).grants

-- no claim falls back: each status that an accepted event reports is entitled or satisfied
abbrev pub NoneIsToldToWait : Type 0
NoneIsToldToWait =
    (groups : ReadGroups) (seats cap : ℕ) (events : List Event) (event : Event) → AreAccepted (opening groups seats cap) events → Comes (after (opening groups seats cap) events) event
    → AreActive (changes_between (after (opening groups seats cap) events) (next (after (opening groups seats cap) events) event)).statuses

-- a claim that is there before and after is at least as far after as before
pub record IsAsFar (x y : Claimed) : Type 0 where
  pub active : is_active x ≡ true → is_active y ≡ true
  pub satisfied : is_satisfied x ≡ true → is_satisfied y ≡ true

abbrev pub AreAsFar : List Claimed → List Claimed → Type 0
AreAsFar xs ys = (x y : Claimed) → Among x xs → Among y ys → y.claim ≡ x.claim → IsAsFar x y

-- no claim falls back: this holds for each accepted event, after any list of accepted events
abbrev pub NoneFallsBack : Type 0
NoneFallsBack =
    (groups : ReadGroups) (seats cap : ℕ) (events : List Event) (event : Event) → AreAccepted (opening groups seats cap) events → Comes (after (opening groups seats cap) events) event
    → AreAsFar (after (opening groups seats cap) events).claims (next (after (opening groups seats cap) events) event).claims
