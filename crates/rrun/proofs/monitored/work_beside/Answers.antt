use Rattle.std.proofs.Common.{rules, subst}
use Rattle.rvalue.specs.declared.ledger.Ledger.{Ledger}
use Rattle.rvalue.specs.Ledgers.{value_after, is_taken}
use Rattle.rlooks.specs.Watches.{HasWatched}
use Rattle.rrun.proofs.monitored.work_beside.Goals as goal

pub returns-clause-watched : goal.returns-clause-watched
returns-clause-watched g c =
    subst (HasWatched value_after is_taken (λ (ledger : Ledger). ledger.balance) c.args.rnlp.now c.args.team.now.scribe c.args.watch.now c.join_mut-back.result.0) (search rules)
    c.join_mut-back.ensures.0.met.1
