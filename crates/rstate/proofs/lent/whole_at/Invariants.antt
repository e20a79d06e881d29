use Rattle.std.proofs.Common.{◌≡◌, drop}
use Rattle.rstate.specs.Lent.{at_place}
use Rattle.rstate.proofs.lent.whole_at.Given as goal

abbrev pub invariant-loop-whole : goal.invariant-loop-whole
invariant-loop-whole g l = at_place (drop l.whole-index l.wholes) l.place ≡ at_place l.wholes l.place
