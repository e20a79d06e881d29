use Rattle.rlooks.specs.Lookouts.{GoesOn}
use Rattle.rlooks.proofs.rounds.look_rounds.Given as goal

abbrev pub invariant-loop : goal.invariant-loop
invariant-loop g l = GoesOn l.counter l.fn.lookout l.lookout
