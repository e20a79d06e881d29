use Rattle.rvalue.specs.declared.ledger.Ledger.{Ledger}
use Rattle.rvalue.specs.Ledgers.{value_after, is_taken}
use Rattle.rlooks.specs.Lookouts.{GoesOn}
use Rattle.rlooks.specs.Workers.{Feeds}
use Rattle.rrun.proofs.monitored.show_looks.Given as goal

abbrev pub invariant-loop : goal.invariant-loop
invariant-loop g l =
    (goal.iterator-loop g).can_next l.iterator' × (goal.iterator-loop g).is_finite l.iterator'
    × ((b : _) → Feeds value_after is_taken (λ (ledger : Ledger). ledger.balance) l.fn.rnlp b l.fn.scribe l.fn.feed l.fn.lookout.monitor → Feeds value_after is_taken (λ (ledger : Ledger). ledger.balance) l.fn.rnlp b l.scribe l.feed l.lookout.monitor)
    × GoesOn 0 l.fn.lookout l.lookout
