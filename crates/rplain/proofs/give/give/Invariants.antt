use Rattle.rmodel.specs.Steps.{given}
use Rattle.rplain.proofs.settling.ToldSteps.{ToldTo}
use Rattle.rplain.proofs.give.give.Given as goal

abbrev pub invariant-loop-i : goal.invariant-loop-i
invariant-loop-i l = ToldTo l.initial.claims (given l.initial.claims) l.claims l.i l.changes
