use Rattle.std.proofs.Common.{◌<◌}
use mathlib.Core.List.{IsPrefix}
use Rattle.rlooks.specs.Lookouts.{GoesOn}
use Rattle.rlooks.specs.Workers.{Feeds}
use Rattle.rlooks.proofs.rounds.feed_rounds.Given as goal

abbrev pub invariant-loop : goal.invariant-loop
invariant-loop g l = record {
  on : GoesOn l.counter l.fn.lookout l.lookout;
  feeds : (b : _) → Feeds g.T.Editable.after g.T.Editable.taken g.T.Editable.number l.fn.rnlp b l.fn.scribe l.fn.feed l.fn.lookout.monitor → Feeds g.T.Editable.after g.T.Editable.taken g.T.Editable.number l.fn.rnlp b l.scribe l.feed l.lookout.monitor;
  fed : 0 < l.counter → IsPrefix l.feed.fed l.lookout.monitor.seen;
}
