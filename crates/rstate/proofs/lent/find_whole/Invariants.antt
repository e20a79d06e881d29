use Rattle.std.proofs.Common.{◌≡◌, ◌+◌, drop}
use Rattle.rstate.specs.Lent.{at_place, index_of}
use Rattle.rstate.proofs.lent.find_whole.Given as goal

abbrev pub invariant-loop-i : goal.invariant-loop-i
invariant-loop-i g l =
    (at_place (drop l.i l.wholes) l.place ≡ at_place l.wholes l.place) × (l.i + index_of (drop l.i l.wholes) l.place ≡ index_of l.wholes l.place)
