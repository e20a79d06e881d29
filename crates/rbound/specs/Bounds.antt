-- The bound of a wait, by what all tasks need.
use Rattle.std.specs.Prelude.{◌≤◌, ℕ, zero, suc, ◌+◌, ◌-◌, ◌*◌, ◌==◌, Bool, not, ◌&&◌, ◌||◌, min, max, Option, Some, None, List, [], ◌∷◌, map, if◌then◌else◌}
use Rattle.std.specs.List.{list_any, list_all, count_by, range_with_len}
use Rattle.std.specs.FinSet.{intersection}
use Rattle.rset.specs.Sets.{Set, meets}
use Rattle.rclaim.specs.declared.claim.Claim.{Claim}
use Rattle.rmodel.specs.Claims.{conflicts, is_upgrade, is_read_half}
use Rattle.rbound.specs.Needs.{Needed, first_need, write_need}
use Rattle.rbound.specs.Zones.{zone_of, is_there}
use Rattle.rbound.specs.declared.bound.Bound.{Bound}

-- the numbers of a wait: of sections that count as reads, of those that count as writes, and the sum of their lengths
pub record Numbers : Type 0 where
  pub reads : ℕ
  pub writes : ℕ
  pub units : ℕ

-- no number is above the corresponding one of the other
pub record IsWithin (a b : Numbers) : Type 0 where
  pub reads : a.reads ≤ b.reads
  pub writes : a.writes ≤ b.writes
  pub units : a.units ≤ b.units

-- the greatest length of the claims that pass a test, 0 if there is none
abbrev pub greatest : (Needed → Bool) → List Needed → ℕ
greatest p [] = 0
greatest p (n ∷ ns) = if p n then max n.len (greatest p ns) else greatest p ns

-- the greatest sum of at most this many of these numbers: the sum of the largest
abbrev pub largest : ℕ → List ℕ → ℕ
largest zero xs = 0
largest (suc k) [] = 0
largest (suc k) (x ∷ xs) = max (x + largest k xs) (largest (suc k) xs)

-- 1 where the test holds, otherwise 0
abbrev pub one_if : Bool → ℕ
one_if b = if b then 1 else 0

-- the tasks by number
abbrev pub tasks_of : ℕ → List ℕ
tasks_of tasks = range_with_len 0 tasks

-- ---- a write wait, of a task, in the zone of its write claim

-- a read claim, or a write claim, of another task, in the zone
abbrev pub reads_there : ℕ → Set → Needed → Bool
reads_there task zone n = not (n.claim.seat == task) && not n.claim.write_half && is_there zone n

abbrev pub writes_there : ℕ → Set → Needed → Bool
writes_there task zone n = not (n.claim.seat == task) && n.claim.write_half && is_there zone n

-- a claim of an upgrade of another task, in the zone
abbrev pub upgrades_there : ℕ → Set → Needed → Bool
upgrades_there task zone n = not (n.claim.seat == task) && is_upgrade n.claim.kind && is_there zone n

-- another task has a write claim in the zone
abbrev pub is_writer : List Needed → ℕ → Set → ℕ → Bool
is_writer ns task zone other = list_any (λ n. writes_there task zone n && (n.claim.seat == other)) ns

-- the number of such tasks
abbrev pub writers : List Needed → ℕ → ℕ → Set → ℕ
writers ns tasks task zone = count_by (is_writer ns task zone) (tasks_of tasks)

-- the writes: one for each other writer, but no more than may be incomplete beside the request itself
abbrev pub writes_of : List Needed → ℕ → ℕ → ℕ → Set → ℕ
writes_of ns tasks cap task zone = min (writers ns tasks task zone) (cap - 1)

-- each task that may read in the zone may also write there
abbrev pub all_may_write : List Needed → ℕ → Set → Bool
all_may_write ns task zone = list_all (λ n. not (reads_there task zone n) || is_writer ns task zone n.claim.seat) ns

-- no other reader can be incomplete beside all writers that count, and no writer is an upgrade
abbrev pub none_beside : List Needed → ℕ → ℕ → ℕ → Set → Bool
none_beside ns tasks cap task zone =
    not (list_any (upgrades_there task zone) ns) && ((writes_of ns tasks cap task zone == (cap - 1)) || all_may_write ns task zone)

-- the reads: none where no other task reads there; otherwise one for each write, and one more unless no reader can be beside them
abbrev pub reads_of : List Needed → ℕ → ℕ → ℕ → Set → ℕ
reads_of ns tasks cap task zone =
    if list_any (reads_there task zone) ns then (if none_beside ns tasks cap task zone then writes_of ns tasks cap task zone else writes_of ns tasks cap task zone + 1) else 0

-- the longest write length of a task in the zone
abbrev pub write_length : List Needed → ℕ → Set → ℕ → ℕ
write_length ns task zone other = greatest (λ n. writes_there task zone n && (n.claim.seat == other)) ns

-- the units: the largest write lengths, one of each writer that counts, and for each read the longest length of another task's read claim
abbrev pub units_of : List Needed → ℕ → ℕ → ℕ → Set → ℕ
units_of ns tasks cap task zone =
    largest (writes_of ns tasks cap task zone) (map (write_length ns task zone) (tasks_of tasks)) + reads_of ns tasks cap task zone * greatest (reads_there task zone) ns

-- the bound of the wait of a write claim
abbrev pub write_bound : List Needed → ℕ → ℕ → Claim → Numbers
write_bound ns tasks cap c = record {
  reads = reads_of ns tasks cap c.seat (zone_of ns c.places);
  writes = writes_of ns tasks cap c.seat (zone_of ns c.places);
  units = units_of ns tasks cap c.seat (zone_of ns c.places);
}

-- ---- a read wait

-- a claim can hold up a write claim: it reads what the write claim writes, and is of another task, or is the read half of the same request
abbrev pub can_hold_up : Claim → Claim → Bool
can_hold_up c v = meets c.reads v.writes && (not (c.seat == v.seat) || (is_read_half c && (c.stamp == v.stamp)))

-- a write claim of another task that conflicts with the read claim
abbrev pub may_keep : Claim → Needed → Bool
may_keep r v = v.claim.write_half && not (v.claim.seat == r.seat) && conflicts v.claim r

-- a claim of another task that can hold up such a write
abbrev pub may_delay : List Needed → Claim → Needed → Bool
may_delay ns r n = not (n.claim.seat == r.seat) && list_any (λ v. may_keep r v && can_hold_up n.claim v.claim) ns

-- the bound of the wait of a read claim
abbrev pub read_bound : List Needed → Claim → Numbers
read_bound ns r = record {
  reads = one_if (list_any (may_delay ns r) ns);
  writes = one_if (list_any (may_keep r) ns);
  units = greatest (may_keep r) ns + greatest (may_delay ns r) ns;
}

-- ---- an ask

-- a claim of another task that reads some of what the asker wants to write
abbrev pub may_bar : Claim → Set → Needed → Bool
may_bar c part n = not (n.claim.seat == c.seat) && meets n.claim.reads (intersection part c.writes)

-- the bound of the wait of an ask for this part
abbrev pub ask_bound : List Needed → Claim → Set → Numbers
ask_bound ns c part = record { reads = one_if (list_any (may_bar c part) ns); writes = 0; units = greatest (may_bar c part) ns }

-- ---- the bounds of a request of a task

abbrev pub no_wait : Numbers
no_wait = record { reads = 0; writes = 0; units = 0 }

-- the bound of the first wait of a claim
abbrev pub bound_by : List Needed → ℕ → ℕ → Claim → Numbers
bound_by ns tasks cap c = if c.write_half then write_bound ns tasks cap c else read_bound ns c

abbrev pub bound_of_first : List Needed → ℕ → ℕ → Option Needed → Numbers
bound_of_first ns tasks cap None = no_wait
bound_of_first ns tasks cap (Some n) = bound_by ns tasks cap n.claim

-- the bound of the first wait of a request of a task
abbrev pub first_bound : List Needed → ℕ → ℕ → ℕ → ℕ → Numbers
first_bound ns tasks cap task number = bound_of_first ns tasks cap (first_need ns task number)

abbrev pub bound_of_rise : List Needed → ℕ → ℕ → Option Needed → Numbers
bound_of_rise ns tasks cap None = no_wait
bound_of_rise ns tasks cap (Some n) = write_bound ns tasks cap n.claim

-- the bound of the wait of an upgrade that rises
abbrev pub rise_bound : List Needed → ℕ → ℕ → ℕ → ℕ → Numbers
rise_bound ns tasks cap task number = bound_of_rise ns tasks cap (write_need ns task number)

abbrev pub bound_of_ask : List Needed → Set → Option Needed → Numbers
bound_of_ask ns part None = no_wait
bound_of_ask ns part (Some n) = ask_bound ns n.claim part

-- the bound of an ask of a request for this part
abbrev pub ask_bound_of : List Needed → ℕ → ℕ → Set → Numbers
ask_bound_of ns task number part = bound_of_ask ns part (write_need ns task number)

-- the numbers of a bound
abbrev pub numbers_in : Bound → Numbers
numbers_in b = record { reads = b.reads; writes = b.writes; units = b.units }
