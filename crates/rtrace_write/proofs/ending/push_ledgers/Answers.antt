use Rattle.rvalue.specs.Ledgers.{opening_ledger}
use Rattle.rtrace_write.proofs.Growing.{ledger_more, there}
use Rattle.rtrace_write.proofs.ending.push_ledgers.Goals as goal

pub loop-place-preserved : goal.loop-place-preserved
loop-place-preserved c =
    ledger_more c.args.names.now c.args.ledgers.now c.loop-place.place _ c.args.page.now c.loop-place.page c.push_ledger.new.self
    c.loop-place-test.true (there c.args.ledgers.now c.loop-place.place opening_ledger c.loop-place-test.true) c.loop-place.invariant c.in_ok-push_ledger.ensures.ok
