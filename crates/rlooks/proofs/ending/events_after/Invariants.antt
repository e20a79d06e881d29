use Rattle.std.proofs.Common.{◌≡◌, ◌≤◌, map, take, length, vec_capacity}
use Rattle.rlooks.proofs.ending.events_after.Given as goal

abbrev pub invariant-loop-entry : goal.invariant-loop-entry
invariant-loop-entry g l = (l.events.items ≡ map (λ entry. entry.event) (take l.entry-index l.more)) × (length l.more ≤ vec_capacity l.events)
