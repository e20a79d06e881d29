use Rattle.std.proofs.Common.{◌≡◌, ◌+◌, ◌≤◌, ◌++◌, map, take, length, vec_capacity}
use Rattle.rguard.proofs.scribe.add_events.Given as goal

abbrev pub invariant-loop-entry : goal.invariant-loop-entry
invariant-loop-entry g l =
    (l.into.items ≡ l.fn.into.items ++ map (λ entry. entry.event) (take l.entry-index l.more))
    × (length l.fn.into.items + length l.more ≤ vec_capacity l.into)
