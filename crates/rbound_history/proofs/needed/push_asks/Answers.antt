use Rattle.rbound_history.proofs.Gathering.{asked_within, asked_nested, asked_more}
use Rattle.rbound_history.proofs.needed.push_asks.Goals as goal

pub push_ask-requires-clause-task : goal.push_ask-requires-clause-task
push_ask-requires-clause-task c = asked_within c.args.needs.now c.loop-asked.needs c.args.task c.args.asks.now c.loop-asked.asked-index c.requires.task c.loop-asked.invariant

pub push_ask-requires-clause-nested : goal.push_ask-requires-clause-nested
push_ask-requires-clause-nested c = asked_nested c.args.needs.now c.loop-asked.needs c.args.task c.args.asks.now c.loop-asked.asked-index c.requires.nested c.loop-asked.invariant

pub loop-asked-preserved : goal.loop-asked-preserved
loop-asked-preserved c =
    asked_more c.args.needs.now c.loop-asked.needs c.push_ask.new.self c.args.task c.args.asks.now c.loop-asked.asked-index c.asked-item.result c.loop-asked-test.true c.asked-item.is c.loop-asked.invariant c.in_ok-push_ask.ensures.ok
