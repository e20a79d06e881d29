use Rattle.rdrill.proofs.Running.{IsToldTo}
use Rattle.rdrill.proofs.drawing.drill.Given as goal

abbrev pub invariant-loop : goal.invariant-loop
invariant-loop g l = IsToldTo l.counter (g.M.Machine.state l.machine) l.dice.x l.latest (g.A.Audience.all l.fn.audience) (g.A.Audience.all l.audience)
