use Rattle.rvalue.specs.declared.ledger.Ledger.{Ledger}
use Rattle.rvalue.specs.Ledgers.{value_after, is_taken}
use Rattle.tests_on_threads.proofs.Begun.{risen_writes}
use Rattle.tests_on_threads.proofs.rising.risen.Goals as goal

pub returns-clause-writes : goal.returns-clause-writes
returns-clause-writes g c =
    risen_writes value_after is_taken (λ (ledger : Ledger). ledger.balance) c.args.guard.seat c.rise-guard.result.seat c.args.group c.args.guard.acts c.rise-guard.ensures.goes c.seat.ensures.lawful c.seat.ensures.own c.rise-guard.ensures.ready c.requires.begun
