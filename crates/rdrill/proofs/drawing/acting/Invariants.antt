use Rattle.rdrill.proofs.Acting.{Searches}
use Rattle.rdrill.proofs.drawing.acting.Given as goal

abbrev pub invariant-loop-more : goal.invariant-loop-more
invariant-loop-more g l = Searches (g.M.Machine.state l.machine) l.seat l.more
