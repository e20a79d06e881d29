use Rattle.rbound_history.proofs.Gathering.{HasAsked}
use Rattle.rbound_history.proofs.needed.push_asks.Given as goal

abbrev pub invariant-loop-asked : goal.invariant-loop-asked
invariant-loop-asked l = HasAsked l.fn.needs l.needs l.task l.asks l.asked-index
