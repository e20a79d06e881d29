use Rattle.std.proofs.Common.{◌≡◌, ◌+◌, drop}
use Rattle.rstate.specs.Lent.{at_place, index_of}
use Rattle.rguard.proofs.copies.find_own.Given as goal

abbrev pub invariant-loop-i : goal.invariant-loop-i
invariant-loop-i g l =
    (at_place (drop l.i l.own) l.place ≡ at_place l.own l.place) × (l.i + index_of (drop l.i l.own) l.place ≡ index_of l.own l.place)
