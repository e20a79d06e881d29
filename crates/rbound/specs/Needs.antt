-- What tasks need: their requests and asks in order, and the claims that these make.
use Rattle.std.specs.Prelude.{ℕ, suc, Bool, ◌&&◌, ◌==◌, Option, List, [], ◌∷◌, ◌++◌, map, find, if◌then◌else◌}
use Rattle.rset.specs.Sets.{Set}
use Rattle.rclaim.specs.Requests.{RequestFields}
use Rattle.rclaim.specs.declared.claim.Claim.{Claim}
use Rattle.rmodel.specs.Claims.{claims_of, is_upgrade}
use Rattle.rbound.specs.declared.needed.Needed as needed

-- a request that a task needs, and the sets that it asks for, in order
pub record RequestNeeds : Type 0 where
  pub request : RequestFields
  pub asks : List Set

-- what the tasks need: for each task by number its requests in order
abbrev pub Needs : Type 0
Needs = List (List RequestNeeds)

-- a claim that is needed, and the length of its section; its seat is the number of the task, its stamp the number of the request in the task, from 0
abbrev pub Needed : Type 0
Needed = needed.Needed

-- the length of the section of a claim of a request
abbrev pub length_of : RequestFields → Claim → ℕ
length_of r c = if is_upgrade c.kind && c.write_half then r.later else r.len

-- the claims of a request, with their lengths
abbrev pub needed_of : List Set → ℕ → ℕ → RequestFields → List Needed
needed_of groups task number r = map (λ c. record { claim = c; len = length_of r c }) (claims_of groups number task r)

-- the claims of a task's requests from a number on
abbrev pub needed_by_task : List Set → ℕ → ℕ → List RequestNeeds → List Needed
needed_by_task groups task number [] = []
needed_by_task groups task number (n ∷ ns) = needed_of groups task number n.request ++ needed_by_task groups task (suc number) ns

-- the claims of the tasks from a number on
abbrev pub needed_from : List Set → ℕ → Needs → List Needed
needed_from groups task [] = []
needed_from groups task (ns ∷ rest) = needed_by_task groups task 0 ns ++ needed_from groups (suc task) rest

-- all claims that are needed
abbrev pub all_needed : List Set → Needs → List Needed
all_needed groups needs = needed_from groups 0 needs

-- a needed claim is of a request of a task
abbrev pub is_of_request : ℕ → ℕ → Needed → Bool
is_of_request task number n = (n.claim.seat == task) && (n.claim.stamp == number)

-- the claim of a request that waits first: the read half of an upgrade, or the only claim
abbrev pub first_need : List Needed → ℕ → ℕ → Option Needed
first_need ns task number = find (is_of_request task number) ns

-- the write claim of a request
abbrev pub write_need : List Needed → ℕ → ℕ → Option Needed
write_need ns task number = find (λ n. is_of_request task number n && n.claim.write_half) ns
