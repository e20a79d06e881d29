use Rattle.rvalue.specs.declared.ledger.Ledger.{Ledger}
use Rattle.rvalue.specs.Ledgers.{value_after, is_taken}
use Rattle.tests_on_threads.proofs.Waiting.{reads_looked}
use Rattle.tests_on_threads.proofs.looks.look_to_read.Goals as goal

pub returns-in-Ready-Read-clause-reads : goal.returns-in-Ready-Read-clause-reads
returns-in-Ready-Read-clause-reads g c = λ l there.
    reads_looked value_after is_taken (λ (ledger : Ledger). ledger.balance) c.args.group c.args.wait c.in-Ready-Read.guard c.look.result c.in-Ready-Read.field-0 l
    c.requires.waits c.in-Ready-Read.field-0-is c.in-Ready-Read.is c.look.ensures c.seat.ensures.lawful c.seat.ensures.own there
