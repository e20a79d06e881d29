-- The changes of a step: the claims whose status changed, and the requests that hold more.
use Rattle.std.specs.Prelude.{◌≡◌, ℕ, true, Bool, not, ◌&&◌, ◌==◌, Option, Some, None, unwrap_or, List, [], ◌∷◌, ◌++◌, find, if◌then◌else◌}
use Rattle.std.specs.List.{filter_map, AllByRecursion}
use Rattle.std.specs.Option.{option_map, option_to_list}
use Rattle.std.specs.FinSet.{empty}
use Rattle.rclaim.specs.Changes.{ChangeLists}
use Rattle.rclaim.specs.Codes.{number_of}
use Rattle.rclaim.specs.declared.changes.StatusChange.{StatusChange}
use Rattle.rclaim.specs.declared.changes.GrantChange.{GrantChange}
use Rattle.rclaim.specs.declared.claim.Claim.{Claim}
use Rattle.rclaim.specs.declared.claim.Status.{Status}
use Rattle.rmodel.specs.declared.claimed.Claimed.{Claimed}
use Rattle.rmodel.specs.Claims.{waiting, active_by}
use Rattle.rmodel.specs.Holds.{held_by, is_within}
use Rattle.rmodel.specs.State.{LockState}

-- two tests have the same result
abbrev pub is_same : Bool → Bool → Bool
is_same a b = if a then b else not b

-- this is the read claim, or the write claim, of the request of a seat
abbrev pub is_claim_of : ℕ → Bool → Claimed → Bool
is_claim_of seat write_half x = (x.claim.seat == seat) && is_same x.claim.write_half write_half

-- the read claim, or the write claim, of the request of a seat
abbrev pub claim_at : List Claimed → ℕ → Bool → Option Claimed
claim_at xs seat write_half = find (is_claim_of seat write_half) xs

-- its status
abbrev pub status_in : List Claimed → ℕ → Bool → Option Status
status_in xs seat write_half = option_map (λ x. x.status) (claim_at xs seat write_half)

-- a claim as it was in a list; a new claim was waiting, with nothing granted
abbrev pub was_in : List Claimed → Claim → Claimed
was_in xs c = unwrap_or (claim_at xs c.seat c.write_half) (waiting empty c)

-- a claim, and the same claim later
abbrev pub SameClaim : Claimed → Claimed → Type 0
SameClaim x y = y.claim ≡ x.claim

-- the change of status of a claim, if there is one
abbrev pub status_change : Claimed → Claimed → Option StatusChange
status_change was now =
    if number_of was.status == number_of now.status then None
    else Some (record { seat = now.claim.seat; write_half = now.claim.write_half; status = now.status })

-- all that is held through a claim, if it is more than before
abbrev pub grant_change : Claimed → Claimed → Option GrantChange
grant_change was now =
    if is_within (held_by now) (held_by was) then None
    else Some (record { seat = now.claim.seat; reads = (held_by now).reads; writes = (held_by now).writes })

-- the changes from one state to another, by rising stamp
unfoldable pub changes_between : LockState → LockState → ChangeLists
changes_between s t = record {
  statuses = filter_map (λ y. status_change (was_in s.claims y.claim) y) t.claims;
  grants = filter_map (λ y. grant_change (was_in s.claims y.claim) y) t.claims;
}

-- the changes of status from a list of claims to the same claims later, one after another
unfoldable pub status_changes : List Claimed → List Claimed → List StatusChange
status_changes [] ys = []
status_changes (x ∷ xs) [] = []
status_changes (x ∷ xs) (y ∷ ys) = option_to_list (status_change x y) ++ status_changes xs ys

-- the grants, likewise
unfoldable pub grant_changes : List Claimed → List Claimed → List GrantChange
grant_changes [] ys = []
grant_changes (x ∷ xs) [] = []
grant_changes (x ∷ xs) (y ∷ ys) = option_to_list (grant_change x y) ++ grant_changes xs ys

-- these changes, and then those from a claim to the same claim later
abbrev pub with_change : ChangeLists → Claimed → Claimed → ChangeLists
with_change all was now = record {
  statuses = all.statuses ++ option_to_list (status_change was now);
  grants = all.grants ++ option_to_list (grant_change was now);
}

-- each status that is reported is entitled or satisfied: no claim is reported as waiting
abbrev pub AreActive : List StatusChange → Type 0
AreActive changes = AllByRecursion (λ c. active_by c.status ≡ true) changes
