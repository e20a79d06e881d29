-- What tasks need by accepted events lasts no longer than a request is allowed to.
use Rattle.std.proofs.Common.{◌≤◌, ℕ, suc, ◌==◌, Bool, true, false, ◌&&◌, cond, List, [], ◌∷◌, arith}
use Rattle.std.specs.List.{AllByRecursion, range_with_len}
use Rattle.rset.specs.Sets.{Set}
use Rattle.rclaim.specs.Requests.{RequestFields, FitsLater, IsNormal}
use Rattle.rclaim.specs.declared.TheConstants.{LENGTH_LIMIT}
use Rattle.rclaim.specs.declared.event.Event.{Event}
use Rattle.rclaim.specs.declared.event.Event.TheVariants.{Issue, Finish, Rise, Ask}
use Rattle.rclaim.specs.declared.request.Kind.{Kind}
use Rattle.rclaim.specs.declared.request.Kind.TheVariants.{Read, Write, Mixed, Upgrade, Nested}
use Rattle.rmodel.specs.Claims.{claims_of, is_upgrade}
use Rattle.rmodel.specs.State.{LockState}
use Rattle.rmodel.specs.Steps.{next, Comes, AreAccepted}
use Rattle.rmodel.proofs.ListFacts.{all_append, all_map}
use Rattle.rbound.specs.Needs.{Needed, RequestNeeds, length_of, needed_of, needed_by_task, needed_from, all_needed}
use Rattle.rcover_laws.specs.History.{asks_of, requests_of, history_needs}

-- a request lasts no longer than allowed
pub record IsShort (r : RequestFields) : Type 0 where
  pub len : r.len ≤ LENGTH_LIMIT
  pub later : r.later ≤ LENGTH_LIMIT

later_short : (kind : Kind) (later : ℕ) → FitsLater kind later → later ≤ LENGTH_LIMIT
later_short Read later fits = omega (arith, fits)
later_short Write later fits = omega (arith, fits)
later_short Mixed later fits = omega (arith, fits)
later_short Upgrade later fits = fits
later_short Nested later fits = omega (arith, fits)

normal_short : (r : RequestFields) → IsNormal r → IsShort r
normal_short r normal = record { len = normal.len; later = later_short r.kind r.later normal.later }

abbrev IsShortEvent : Event → Type 0
IsShortEvent (Issue seat r) = IsShort r
IsShortEvent (Finish seat) = Unit {0}
IsShortEvent (Rise seat) = Unit {0}
IsShortEvent (Ask seat part) = Unit {0}

event_short : (s : LockState) (e : Event) → Comes s e → IsShortEvent e
event_short s (Issue seat r) comes = normal_short r comes.normal
event_short s (Finish seat) comes = tt
event_short s (Rise seat) comes = tt
event_short s (Ask seat part) comes = tt

events_short : (s : LockState) (es : List Event) → AreAccepted s es → AllByRecursion IsShortEvent es
events_short s [] accepted = tt
events_short s (e ∷ es) accepted = (event_short s e accepted.0, events_short (next s e) es accepted.1)

abbrev AreShortRequests : List RequestNeeds → Type 0
AreShortRequests ns = AllByRecursion (λ (n : RequestNeeds). IsShort n.request) ns

requests_short : (task : ℕ) (es : List Event) → AllByRecursion IsShortEvent es → AreShortRequests (requests_of task es)
requests_short task [] short = tt
requests_short task (Issue seat r ∷ es) short = at (seat == task) (requests_short task es short.1)
  where
    at : (b : Bool) → AreShortRequests (requests_of task es) → AreShortRequests (cond b (record { request = r; asks = asks_of task es } ∷ requests_of task es) (requests_of task es))
    at true rest = (short.0, rest)
    at false rest = rest
requests_short task (Finish seat ∷ es) short = requests_short task es short.1
requests_short task (Rise seat ∷ es) short = requests_short task es short.1
requests_short task (Ask seat part ∷ es) short = requests_short task es short.1

-- needed claims last no longer
abbrev pub AreShort : List Needed → Type 0
AreShort ns = AllByRecursion (λ (n : Needed). n.len ≤ LENGTH_LIMIT) ns

module _ (groups : List Set) where
  claims_short : (task number : ℕ) (r : RequestFields) → IsShort r → AreShort (needed_of groups task number r)
  claims_short task number r short =
      all_map (λ c. let n : Needed = record { claim = c; len = length_of r c } in n) (λ (n : Needed). n.len ≤ LENGTH_LIMIT) (claims_of groups number task r) (λ c there. at (is_upgrade c.kind && c.write_half))
    where
      at : (b : Bool) → cond b r.later r.len ≤ LENGTH_LIMIT
      at true = short.later
      at false = short.len

  task_short : (task number : ℕ) (ns : List RequestNeeds) → AreShortRequests ns → AreShort (needed_by_task groups task number ns)
  task_short task number [] short = tt
  task_short task number (n ∷ ns) short =
      all_append (λ (n : Needed). n.len ≤ LENGTH_LIMIT) (needed_of groups task number n.request) (needed_by_task groups task (suc number) ns) (claims_short task number n.request short.0) (task_short task (suc number) ns short.1)

  tasks_short : (task : ℕ) (needs : List (List RequestNeeds)) → AllByRecursion AreShortRequests needs → AreShort (needed_from groups task needs)
  tasks_short task [] short = tt
  tasks_short task (ns ∷ needs) short =
      all_append (λ (n : Needed). n.len ≤ LENGTH_LIMIT) (needed_by_task groups task 0 ns) (needed_from groups (suc task) needs) (task_short task 0 ns short.0) (tasks_short (suc task) needs short.1)

  -- *What a history of accepted events needs lasts no longer than a request is allowed to*
  pub needs_short : (seats : ℕ) (s : LockState) (es : List Event) → AreAccepted s es → AreShort (all_needed groups (history_needs seats es))
  needs_short seats s es accepted =
      tasks_short 0 (history_needs seats es) (all_map (λ task. requests_of task es) AreShortRequests (range_with_len 0 seats) (λ task there. requests_short task es (events_short s es accepted)))
