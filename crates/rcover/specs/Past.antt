-- The events that covers were given.
use Rattle.std.specs.Prelude.{◌≡◌, ℕ, ◌==◌, Bool, true, false, List, [], ◌∷◌, ◌++◌, if◌then◌else◌}
use Rattle.rexpand.specs.Groups.{ReadGroups}
use Rattle.rclaim.specs.declared.claim.Claim.{Claim}
use Rattle.rclaim.specs.declared.event.Event.{Event}
use Rattle.rclaim.specs.declared.event.Event.TheVariants.{Issue, Finish, Rise, Ask}
use Rattle.rmodel.specs.State.{LockState, opening}
use Rattle.rmodel.specs.Steps.{after}
use Rattle.rbound.specs.Needs.{length_of}
use Rattle.rcover_laws.specs.Ended.{ended_by}
use Rattle.rcover_laws.specs.Moments.{Moment, moments}
use Rattle.rcover_laws.specs.declared.wait_end.WaitEnd.{WaitEnd}

-- the groups, the number of seats, the cap, and the events one after another
pub record Past : Type 0 where
  pub groups : ReadGroups
  pub seats : ℕ
  pub cap : ℕ
  pub events : List Event

-- before the first event
abbrev pub begun : ReadGroups → ℕ → ℕ → Past
begun groups seats cap = record { groups = groups; seats = seats; cap = cap; events = [] }

abbrev pub with_event : Past → Event → Past
with_event p e = record { groups = p.groups; seats = p.seats; cap = p.cap; events = p.events ++ e ∷ [] }

-- the state before the first event, and that after the last
abbrev pub start_of : Past → LockState
start_of p = opening p.groups p.seats p.cap

abbrev pub state_of : Past → LockState
state_of p = after (start_of p) p.events

-- the moments so far
abbrev pub moments_of : Past → List Moment
moments_of p = moments (start_of p) p.events

-- these are the waits that the last event ended
abbrev pub AreLastEnded : Past → List WaitEnd → Type 0
AreLastEnded p ends = (before : List Event) (last : Event) → p.events ≡ before ++ last ∷ [] → ends ≡ ended_by (start_of p) before last

-- the lengths of claims by the last request of each seat, once an event came
abbrev pub noted : Event → (Claim → ℕ) → Claim → ℕ
noted (Issue seat r) by c = if c.seat == seat then length_of r c else by c
noted (Finish seat) by c = by c
noted (Rise seat) by c = by c
noted (Ask seat part) by c = by c

abbrev pub is_issue : Event → Bool
is_issue (Issue seat r) = true
is_issue (Finish seat) = false
is_issue (Rise seat) = false
is_issue (Ask seat part) = false
