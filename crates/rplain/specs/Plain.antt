-- How the plain machine keeps its lock state, and its invariant.
use Rattle.std.specs.Prelude.{◌≡◌, ◌≤◌, ◌+◌, ◌==◌, ◌&&◌, not, ℕ, Bool, true, false, List, slice_index_or, vec_capacity}
use Rattle.std.specs.List.{count_by, list_any, AllByRecursion}
use Rattle.rset.specs.declared.TheConstants.{SEATS}
use Rattle.rclaim.specs.declared.TheConstants.{STATUS_ROOM}
use Rattle.rplain.specs.declared.plain.Plain.TheInside.{Inside}
use Rattle.rclaim.specs.Events.{IsNormalEvent}
use Rattle.rclaim.specs.declared.event.Event.{Event}
use Rattle.rmodel.specs.declared.claimed.Claimed.{Claimed}
use Rattle.rmodel.specs.Claims.{is_read_half}
use Rattle.rmodel.specs.Changes.{status_changes, grant_changes, AreActive}
use Rattle.rmodel.specs.Steps.{changed, next, some_asks}
use Rattle.rplain.specs.Sweep.{AreReadWithin}
use Rattle.rmodel.specs.WellFormed.{IsSound}
use Rattle.rmodel.specs.State.{LockState}
use Rattle.rplain.specs.Machine.{Standing}
use Rattle.rplain.specs.NewClaim.{seen_of}
use Rattle.rmodel.specs.Reached.{IsReached}

-- the lock state of a plain machine
abbrev pub state_of : Inside → LockState
state_of a = record { groups = a.groups; seats = a.seats; cap = a.cap; issued = a.issued; claims = a.claims.items }

-- what contracts see of it
abbrev pub standing_of : Inside → Standing
standing_of a = record { state = state_of a; last = a.changes }

-- the seat of each claim is marked
abbrev pub AreMarked : List Bool → List Claimed → Type 0
AreMarked marks xs = AllByRecursion (λ x. slice_index_or marks x.claim.seat false ≡ true) xs

-- a claim of this seat that is not the read half of an upgrade: each request has one
abbrev pub is_whole_of : ℕ → Claimed → Bool
is_whole_of seat x = (x.claim.seat == seat) && not (is_read_half x.claim)

-- where there is a mark, the seat has a request
abbrev pub AreOnlyMarks : List Bool → List Claimed → Type 0
AreOnlyMarks marks xs = (seat : ℕ) → slice_index_or marks seat false ≡ true → list_any (is_whole_of seat) xs ≡ true

-- its claims have what the claims of each reached state have, and its room is the room that was made at first
pub record IsKept (a : Inside) : Type 0 where
  pub reached : IsReached (state_of a)
  -- what is seen of the claims is kept beside them
  pub seen : a.seen ≡ seen_of a.claims.items
  pub some_cap : 1 ≤ a.cap
  -- exactly the seats of the claims are marked, and `halves` counts the read halves of upgrades
  pub marks : AreMarked a.marks a.claims.items
  pub only : AreOnlyMarks a.marks a.claims.items
  pub halves : a.halves ≡ count_by (λ x. is_read_half x.claim) a.claims.items
  -- `read` has what they read, and where nothing was asked for so far, they ask for nothing
  pub within : AreReadWithin a.read a.claims.items
  pub unasked : a.asked ≡ false → some_asks a.claims.items ≡ false
  pub cap : a.cap ≤ SEATS
  pub some_seats : 1 ≤ a.seats
  pub seats : a.seats ≤ SEATS
  -- all room is as it was made at first
  pub claims_room : vec_capacity a.claims ≡ STATUS_ROOM + 2
  pub before_room : vec_capacity a.before ≡ STATUS_ROOM + 2

-- the machine took an accepted event: the changes are those from the claims that the event leaves to what they settle to
pub record IsTaken (old : Standing) (e : Event) (new : Standing) : Type 0 where
  pub sound : IsSound old.state
  pub normal : IsNormalEvent e
  pub state : new.state ≡ next old.state e
  pub statuses : new.last.statuses ≡ status_changes (changed old.state e).claims new.state.claims
  pub grants : new.last.grants ≡ grant_changes (changed old.state e).claims new.state.claims
  -- no claim falls back
  pub active : AreActive new.last.statuses
