use Rattle.rvalue.specs.declared.ledger.Ledger.{Ledger}
use Rattle.rvalue.specs.Ledgers.{value_after, is_taken}
use Rattle.rlooks.proofs.Watching.{has_watched}
use Rattle.rrun.proofs.monitored.watch_all.Goals as goal

pub returns : goal.returns
returns g c = has_watched value_after is_taken (λ (ledger : Ledger). ledger.balance) c.args.rnlp.now c.args.place.now c.args.watch.now _ c.join_mut-back.result.1 c.join_mut-back.ensures.1.met.1 c.join_mut-back.ensures.0.met.1
