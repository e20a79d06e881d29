use Rattle.std.proofs.Common.{◌≡◌, ◌%◌, ◌^◌, take, map}
use Rattle.std.specs.Arc.{arc_value}
use Rattle.std.specs.List.{sum_by}
use Rattle.bench_sections.proofs.measure.sum_of.Given as goal

abbrev pub invariant-loop-ledger : goal.invariant-loop-ledger
invariant-loop-ledger l = l.sum ≡ sum_by (λ ledger. ledger.balance) (map arc_value (take l.ledger-index l.ledgers)) % 2 ^ 64
