-- Claims: what a request claims, its places, and when two claims conflict.
use Rattle.std.specs.Prelude.{◌≡◌, ℕ, Bool, true, false, not, ◌&&◌, ◌||◌, List, [], ◌∷◌}
use Rattle.std.specs.FinSet.{empty, intersection}
use Rattle.rset.specs.Sets.{Set, meets}
use Rattle.rexpand.specs.Groups.{places_of, is_declared}
use Rattle.rclaim.specs.Requests.{RequestFields}
use Rattle.rclaim.specs.declared.request.Kind.{Kind}
use Rattle.rclaim.specs.declared.request.Kind.TheVariants.{Read, Write, Mixed, Upgrade, Nested}
use Rattle.rclaim.specs.declared.claim.Claim.{Claim}
use Rattle.rclaim.specs.declared.claim.Status.{Status}
use Rattle.rclaim.specs.declared.claim.Status.TheVariants.{Waiting, Entitled, Satisfied}
use Rattle.rmodel.specs.declared.claimed.Claimed.{Claimed}

-- the set of a read and of an upgrade must be declared
abbrev pub needs_declared : Kind → Bool
needs_declared Read = true
needs_declared Write = false
needs_declared Mixed = false
needs_declared Upgrade = true
needs_declared Nested = false

-- a request is admitted: its set is declared where it must be
abbrev pub is_admitted : List Set → RequestFields → Bool
is_admitted groups r = not (needs_declared r.kind) || is_declared groups r.reads

-- the set of a request must be declared, and is not
abbrev pub IsUndeclared : List Set → RequestFields → Type 0
IsUndeclared groups r = (needs_declared r.kind ≡ true) × (is_declared groups r.reads ≡ false)

-- the places of a claim: those of a read claim are what it reads,
-- those of a write claim are what it reads and what is shared with each resource that it writes
abbrev pub claim_places : List Set → Bool → Set → Set → Set
claim_places groups false reads writes = reads
claim_places groups true reads writes = places_of groups reads writes

-- a read claim, or a write claim, of a request of this kind, at a stamp and a seat
abbrev pub claim_of : List Set → Bool → ℕ → ℕ → Kind → Set → Set → Claim
claim_of groups write_half stamp seat kind reads writes =
    record { stamp = stamp; seat = seat; kind = kind; write_half = write_half; reads = reads; writes = writes; places = claim_places groups write_half reads writes }

-- the claims of a request of this kind with these sets: a read makes a read claim; a write, a mixed and a nested request make a write claim;
-- an upgrade makes a read claim that reads its set, and a write claim that writes it
abbrev pub claims_by : List Set → Kind → ℕ → ℕ → Set → Set → List Claim
claims_by groups Read stamp seat reads writes = claim_of groups false stamp seat Read reads writes ∷ []
claims_by groups Write stamp seat reads writes = claim_of groups true stamp seat Write reads writes ∷ []
claims_by groups Mixed stamp seat reads writes = claim_of groups true stamp seat Mixed reads writes ∷ []
claims_by groups Upgrade stamp seat reads writes = claim_of groups false stamp seat Upgrade reads empty ∷ claim_of groups true stamp seat Upgrade empty reads ∷ []
claims_by groups Nested stamp seat reads writes = claim_of groups true stamp seat Nested reads writes ∷ []

-- the claims of a request
abbrev pub claims_of : List Set → ℕ → ℕ → RequestFields → List Claim
claims_of groups stamp seat r = claims_by groups r.kind stamp seat r.reads r.writes

-- a kind is that of a nested request
abbrev pub is_nested : Kind → Bool
is_nested Read = false
is_nested Write = false
is_nested Mixed = false
is_nested Upgrade = false
is_nested Nested = true

-- a kind is that of an upgrade
abbrev pub is_upgrade : Kind → Bool
is_upgrade Read = false
is_upgrade Write = false
is_upgrade Mixed = false
is_upgrade Upgrade = true
is_upgrade Nested = false

-- a claim is the read half of an upgrade: it is in the list until the upgrade rises
abbrev pub is_read_half : Claim → Bool
is_read_half c = is_upgrade c.kind && not c.write_half

-- a claim reads or writes one of these resources
abbrev pub touches : Claim → Set → Bool
touches c s = meets c.reads s || meets c.writes s

-- two claims conflict where what one writes meets what the other reads or writes
abbrev pub conflicts : Claim → Claim → Bool
conflicts a b = touches b a.writes || touches a b.writes

-- a claim conflicts with an asker on a part of what the asker reads and writes, where it writes some of the part,
-- or reads or writes some of the part that the asker writes
abbrev pub conflicts_on : Claim → Claim → Set → Bool
conflicts_on c asker part = meets c.writes part || touches c (intersection part asker.writes)

-- two claims share a place
abbrev pub share_place : Claim → Claim → Bool
share_place a b = meets a.places b.places

-- a status is that of a satisfied claim
abbrev pub satisfied_by : Status → Bool
satisfied_by Waiting = false
satisfied_by Entitled = false
satisfied_by Satisfied = true

-- a status is entitled or satisfied
abbrev pub active_by : Status → Bool
active_by Waiting = false
active_by Entitled = true
active_by Satisfied = true

-- a status is that of a claim that is next to get what it asks for
abbrev pub entitled_by : Status → Bool
entitled_by Waiting = false
entitled_by Entitled = true
entitled_by Satisfied = false

-- a claim is satisfied
abbrev pub is_satisfied : Claimed → Bool
is_satisfied x = satisfied_by x.status

-- a claim is entitled or satisfied
abbrev pub is_active : Claimed → Bool
is_active x = active_by x.status

-- a claim is entitled
abbrev pub is_entitled : Claimed → Bool
is_entitled x = entitled_by x.status

-- a claim that waits, asks for this part, and was granted nothing
abbrev pub waiting : Set → Claim → Claimed
waiting first c = record { claim = c; status = Waiting; asked = first; granted = empty }
