-- The laws, for every list of accepted events.
use Rattle.std.specs.Prelude.{◌≡◌, ◌≢◌, ◌≤◌, ℕ, Bool, true, false, ◌&&◌, List, []}
use Rattle.std.specs.List.{list_any, count_by, AllByRecursion}
use Rattle.rset.specs.Sets.{Set, meets}
use Rattle.rexpand.specs.Groups.{ReadGroups}
use Rattle.rclaim.specs.declared.claim.Claim.{Claim}
use Rattle.rclaim.specs.declared.event.Event.{Event}
use Rattle.rmodel.specs.declared.claimed.Claimed.{Claimed}
use Rattle.rmodel.specs.Claims.{share_place, conflicts, is_active, is_satisfied}
use Rattle.rmodel.specs.Holds.{holds_of, is_nothing, has_request, has_ask}
use Rattle.rmodel.specs.Rules.{is_earlier_write, Settles}
use Rattle.rmodel.specs.Settling.{settled}
use Rattle.rmodel.specs.State.{LockState, opening}
use Rattle.rmodel.specs.Steps.{changed, after, Comes, AreAccepted}
use Rattle.rmodel.specs.WellFormed.{EachPair, AreWellFormed, AreExclusive, AreAdmittedBy, Distinct, TakeTurns}

-- a list of claims settles to this one, and to no other
pub record SettlesOnlyTo (s t : List Claimed) : Type 0 where
  pub settles : Settles s t
  pub only : (u : List Claimed) → Settles s u → u ≡ t

-- one settlement: any well-formed list of claims settles in one way, to the list that `settled` computes
abbrev pub OneSettlement : Type 0
OneSettlement = (s : List Claimed) → AreWellFormed s → SettlesOnlyTo s (settled s)

-- one settlement: the list that an event leaves, after any list of accepted events, settles in one way
abbrev pub OneSettlementAStep : Type 0
OneSettlementAStep =
    (groups : ReadGroups) (seats cap : ℕ) (events : List Event) (event : Event) → AreAccepted (opening groups seats cap) events → Comes (after (opening groups seats cap) events) event
    → SettlesOnlyTo (changed (after (opening groups seats cap) events) event).claims (settled (changed (after (opening groups seats cap) events) event).claims)

-- writes are exclusive: exclusive claims settle to exclusive claims
abbrev pub SettlingIsExclusive : Type 0
SettlingIsExclusive = (s t : List Claimed) → AreExclusive s → Settles s t → AreExclusive t

-- what the request of one seat holds for writing, the request of the other does not hold
pub record IsExclusive (s : LockState) (seat other : ℕ) : Type 0 where
  pub not_read : meets (holds_of s.claims seat).writes (holds_of s.claims other).reads ≡ false
  pub not_written : meets (holds_of s.claims seat).writes (holds_of s.claims other).writes ≡ false

-- writes are exclusive: after any list of accepted events, what one request holds for writing no other request holds
abbrev pub WritesAreExclusive : Type 0
WritesAreExclusive =
    (groups : ReadGroups) (seats cap : ℕ) (events : List Event) → AreAccepted (opening groups seats cap) events
    → (seat other : ℕ) → seat ≢ other → IsExclusive (after (opening groups seats cap) events) seat other

-- settled is stable: whatever claims settle to settles to itself
abbrev pub SettledIsStable : Type 0
SettledIsStable = (s t : List Claimed) → Settles s t → Settles t t

-- settled is stable: after any list of accepted events the claims settle to themselves
abbrev pub SettledIsStableAStep : Type 0
SettledIsStableAStep =
    (groups : ReadGroups) (seats cap : ℕ) (events : List Event) → AreAccepted (opening groups seats cap) events
    → Settles (after (opening groups seats cap) events).claims (after (opening groups seats cap) events).claims

-- some write of smaller stamp shares a place with c
abbrev pub shares_with_earlier : List Claimed → Claim → Bool
shares_with_earlier xs c = list_any (λ v. is_earlier_write c v.claim && share_place v.claim c) xs

-- each write that shares a place with no write of smaller stamp is entitled or satisfied
abbrev pub EarliestAreEntitled : List Claimed → Type 0
EarliestAreEntitled xs = AllByRecursion (λ x. x.claim.write_half ≡ true → shares_with_earlier xs x.claim ≡ false → is_active x ≡ true) xs

-- the earliest write is entitled: this holds in whatever claims settle to
abbrev pub EarliestIsEntitled : Type 0
EarliestIsEntitled = (s t : List Claimed) → Settles s t → EarliestAreEntitled t

-- the earliest write is entitled: this holds after any list of accepted events
abbrev pub EarliestIsEntitledAStep : Type 0
EarliestIsEntitledAStep =
    (groups : ReadGroups) (seats cap : ℕ) (events : List Event) → AreAccepted (opening groups seats cap) events
    → EarliestAreEntitled (after (opening groups seats cap) events).claims

-- somebody holds: if well-formed claims settle to any claims at all, some of those is satisfied
abbrev pub SomebodyHolds : Type 0
SomebodyHolds = (s t : List Claimed) → AreWellFormed s → Settles s t → t ≢ [] → list_any is_satisfied t ≡ true

-- while a seat has an incomplete request, some claim is satisfied; and the seat of each satisfied claim holds something, and no ask of it is pending
pub record IsHeld (s : LockState) : Type 0 where
  pub somebody : (seat : ℕ) → has_request s.claims seat ≡ true → list_any is_satisfied s.claims ≡ true
  pub something : AllByRecursion (λ x. is_satisfied x ≡ true → is_nothing (holds_of s.claims x.claim.seat) ≡ false) s.claims
  pub answered : AllByRecursion (λ x. is_satisfied x ≡ true → has_ask s.claims x.claim.seat ≡ false) s.claims

-- somebody holds: this is so after any list of accepted events
abbrev pub SomebodyHoldsAStep : Type 0
SomebodyHoldsAStep =
    (groups : ReadGroups) (seats cap : ℕ) (events : List Event) → AreAccepted (opening groups seats cap) events
    → IsHeld (after (opening groups seats cap) events)

-- an entitled or satisfied write that conflicts with c
abbrev pub keeps_out : Claim → Claimed → Bool
keeps_out c v = v.claim.write_half && is_active v && conflicts v.claim c

-- at most one entitled or satisfied write conflicts with each read claim
abbrev pub AreKeptOutByOne : List Claimed → Type 0
AreKeptOutByOne xs = AllByRecursion (λ r. r.claim.write_half ≡ false → count_by (keeps_out r.claim) xs ≤ 1) xs

-- at most one write keeps a read waiting: this holds in what exclusive claims settle to, if groups admit them
abbrev pub OneWriteAtMost : Type 0
OneWriteAtMost = (groups : List Set) (s t : List Claimed) → AreExclusive s → AreAdmittedBy groups s → Settles s t → AreKeptOutByOne t

-- at most one write keeps a read waiting: this holds after any list of accepted events
abbrev pub OneWriteAtMostAStep : Type 0
OneWriteAtMostAStep =
    (groups : ReadGroups) (seats cap : ℕ) (events : List Event) → AreAccepted (opening groups seats cap) events
    → AreKeptOutByOne (after (opening groups seats cap) events).claims

-- the write half of an upgrade waits while its read half is unsatisfied, and is unsatisfied while its read half is there
pub record TurnsAreTaken (read write : Claimed) : Type 0 where
  pub waits : is_satisfied read ≡ false → is_active write ≡ false
  pub unsatisfied : is_satisfied write ≡ false

-- this holds for any two claims of one seat: they are the halves of its upgrade
abbrev pub HalvesTakeTurns : List Claimed → Type 0
HalvesTakeTurns xs = EachPair (λ x y. x.claim.seat ≡ y.claim.seat → TurnsAreTaken x y) xs

-- the halves of an upgrade take turns: this holds in what exclusive claims settle to, if groups admit them and the halves took turns before
abbrev pub TakingTurns : Type 0
TakingTurns = (groups : List Set) (s t : List Claimed) → AreExclusive s → AreAdmittedBy groups s → EachPair Distinct s → EachPair TakeTurns s → Settles s t → HalvesTakeTurns t

-- the halves of an upgrade take turns: two claims of one seat are halves of its upgrade, and take turns, after any list of accepted events
pub record AreHalvesInTurn (xs : List Claimed) : Type 0 where
  pub halves : EachPair Distinct xs
  pub turns : HalvesTakeTurns xs

abbrev pub TakingTurnsAStep : Type 0
TakingTurnsAStep =
    (groups : ReadGroups) (seats cap : ℕ) (events : List Event) → AreAccepted (opening groups seats cap) events
    → AreHalvesInTurn (after (opening groups seats cap) events).claims
