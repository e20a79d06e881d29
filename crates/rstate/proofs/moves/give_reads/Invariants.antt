use Rattle.std.proofs.Common.{◌≡◌}
use Rattle.std.specs.Vec.Iter.{drain_items}
use Rattle.rstate.specs.Moves.{AreMissed, after_loans}
use Rattle.rstate.proofs.moves.give_reads.Given as goal

abbrev pub invariant-loop-loan : goal.invariant-loop-loan
invariant-loop-loan g l =
    AreMissed l.homes.items (drain_items l.loan-iterator)
    × (after_loans l.homes.items (drain_items l.loan-iterator) ≡ after_loans l.initial.homes.items l.fn.loans.items)
