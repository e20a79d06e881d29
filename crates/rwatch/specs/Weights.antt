-- The weight of a step for a watcher.
use Rattle.std.specs.Prelude.{ℕ, ◌+◌, ◌-◌, ◌^◌, Bool, true, false, length, min}
use Rattle.std.specs.List.{count_by}
use Rattle.rclaim.specs.Changes.{ChangeLists}
use Rattle.rclaim.specs.declared.changes.StatusChange.{StatusChange}
use Rattle.rclaim.specs.declared.claim.Status.{Status}
use Rattle.rclaim.specs.declared.claim.Status.TheVariants as status
use Rattle.rclaim.specs.declared.event.Event.{Event}
use Rattle.rclaim.specs.declared.event.Event.TheVariants.{Issue, Finish, Rise, Ask}
use Rattle.rwatch.specs.declared.kinds.WatchKind.{WatchKind}
use Rattle.rwatch.specs.declared.kinds.WatchKind.TheVariants as kinds

-- 1 for an event of this kind, otherwise 0
abbrev pub issues : Event → ℕ
issues (Issue seat request) = 1
issues _ = 0

abbrev pub finishes : Event → ℕ
finishes (Finish seat) = 1
finishes _ = 0

abbrev pub rises : Event → ℕ
rises (Rise seat) = 1
rises _ = 0

abbrev pub asks : Event → ℕ
asks (Ask seat part) = 1
asks _ = 0

-- whether a watcher counts events; otherwise it counts changes
abbrev pub is_of_events : WatchKind → Bool
is_of_events kinds.Issues = true
is_of_events kinds.Finishes = true
is_of_events kinds.Rises = true
is_of_events kinds.Asks = true
is_of_events kinds.Entitled = false
is_of_events kinds.Satisfied = false
is_of_events kinds.Grants = false

-- the kind that counts an event
abbrev pub kind_of : Event → WatchKind
kind_of (Issue seat request) = kinds.Issues
kind_of (Finish seat) = kinds.Finishes
kind_of (Rise seat) = kinds.Rises
kind_of (Ask seat part) = kinds.Asks

-- whether a status is satisfied (`true`), or entitled (`false`)
abbrev pub is_status_of : Bool → Status → Bool
is_status_of true status.Satisfied = true
is_status_of true status.Entitled = false
is_status_of true status.Waiting = false
is_status_of false status.Satisfied = false
is_status_of false status.Entitled = true
is_status_of false status.Waiting = false

abbrev pub is_status : Bool → StatusChange → Bool
is_status satisfied change = is_status_of satisfied change.status

-- the weight of a step: 1 or 0 by its event, or the number of changes of the kind
abbrev pub weight : WatchKind → Event → ChangeLists → ℕ
weight kinds.Issues event changes = issues event
weight kinds.Finishes event changes = finishes event
weight kinds.Rises event changes = rises event
weight kinds.Asks event changes = asks event
weight kinds.Entitled event changes = count_by (is_status false) changes.statuses
weight kinds.Satisfied event changes = count_by (is_status true) changes.statuses
weight kinds.Grants event changes = length changes.grants

-- the greatest count
abbrev pub greatest : ℕ
greatest = 2 ^ 64 - 1

-- the count after a step
abbrev pub count_after : WatchKind → ℕ → Event → ChangeLists → ℕ
count_after kind count event changes = min (count + weight kind event changes) greatest
