-- How needs are kept: for each task a vector of its requests, each with a vector of its asks. Among other crates only `rbound_history` mentions it, where its laws require that needs are kept like this (`AreFine`).
use Rattle.std.specs.Prelude.{◌≡◌, ◌≤◌, ℕ, List, map, length, slice_get, Option, Some, IsTrue, if◌then◌else◌}
use Rattle.std.specs.List.{AllByRecursion}
use Rattle.std.specs.declared.vec.Vec.{Vec}
use Rattle.std.specs.declared.alloc.Global.{Global}
use Rattle.rset.specs.Sets.{Set, all_below}
use Rattle.rclaim.specs.Requests.{RequestFields, IsNormal}
use Rattle.rmodel.specs.Groups.{ReadGroups}
use Rattle.rbound.specs.Needs.{Needed, Needs, RequestNeeds, needed_of, all_needed}
use Rattle.rbound.specs.TaskNeeds.{requests_of}
use Rattle.rbound.specs.declared.requests.RequestAsks.{RequestAsks}

-- a request with its asks
abbrev pub needs_in : RequestAsks → RequestNeeds
needs_in x = record { request = x.request; asks = x.asks.items }

-- the requests of each task
abbrev pub tasks_in : List (Vec RequestAsks Global) → Needs
tasks_in tasks = map (λ v. map needs_in v.items) tasks

-- a request over q resources, in normal form
pub record IsFine (q : ℕ) (r : RequestFields) : Type 0 where
  pub normal : IsNormal r
  pub reads : IsTrue (all_below q r.reads)
  pub writes : IsTrue (all_below q r.writes)

-- all requests of tasks are such
abbrev pub AreFine : ℕ → Needs → Type 0
AreFine q needs = AllByRecursion (λ (ns : List RequestNeeds). AllByRecursion (λ (n : RequestNeeds). IsFine q n.request) ns) needs

-- the claims that are kept are those that are needed, and there are no more tasks than numbers for them
pub record AreKept (groups : ReadGroups) (tasks : List (Vec RequestAsks Global)) (needed : List Needed) : Type 0 where
  pub few : length tasks ≤ 255
  pub fine : AreFine groups.q (tasks_in tasks)
  pub claims : needed ≡ all_needed groups.groups (tasks_in tasks)

-- these are the claims of a request of a task
abbrev pub AreClaimsOf : List Set → Needs → ℕ → ℕ → List Needed → Type 0
AreClaimsOf groups needs task number claims = (x : RequestNeeds) → slice_get (requests_of needs task) number ≡ Some x → claims ≡ needed_of groups task number x.request

-- the write claim among those of a request: the first of them, or the second
abbrev pub write_among : Needed → Option Needed → Option Needed
write_among first second = if first.claim.write_half then Some first else second
