use Rattle.rplain.proofs.settling.SweepSteps.{SweptTo}
use Rattle.rplain.proofs.sweep.sweep_writes.Given as goal

abbrev pub invariant-loop-i : goal.invariant-loop-i
invariant-loop-i l = SweptTo l.initial.claims l.claims l.i l.seen l.changes
