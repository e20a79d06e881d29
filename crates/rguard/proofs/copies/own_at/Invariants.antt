use Rattle.std.proofs.Common.{◌≡◌, drop}
use Rattle.rstate.specs.Lent.{at_place}
use Rattle.rguard.proofs.copies.own_at.Given as goal

abbrev pub invariant-loop-copy : goal.invariant-loop-copy
invariant-loop-copy g l = at_place (drop l.copy-index l.own) l.place ≡ at_place l.own l.place
