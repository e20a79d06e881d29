use Rattle.std.proofs.Common.{◌≡◌}
use mathlib.Core.List.{IsPrefix}
use Rattle.rlooks.proofs.lookout.look_until.Given as goal

abbrev pub invariant-loop : goal.invariant-loop
invariant-loop g l =
    (goal.iterator-loop g).can_next l.iterator' × (goal.iterator-loop g).is_finite l.iterator' × (l.monitor.feed ≡ l.fn.monitor.feed) × (l.monitor.opening ≡ l.fn.monitor.opening) × IsPrefix l.fn.monitor.seen l.monitor.seen
