use Rattle.std.proofs.Common.{◌≡◌, drop}
use Rattle.rstate.specs.Lent.{at_place}
use Rattle.rstate.proofs.lent.share_at.Given as goal

abbrev pub invariant-loop-loan : goal.invariant-loop-loan
invariant-loop-loan g l = at_place (drop l.loan-index l.loans) l.place ≡ at_place l.loans l.place
