use Rattle.std.proofs.Common.{◌≡◌, ◌<◌, ℕ, take}
use Rattle.std.specs.FinSet.{contains}
use Rattle.rset.specs.declared.TheConstants.{SEATS}
use Rattle.rcover.specs.Quiet.{has_grant}
use Rattle.rcover.proofs.seats.seats_granted.Given as goal

abbrev pub invariant-loop-g : goal.invariant-loop-g
invariant-loop-g l = (seat : ℕ) → seat < SEATS → contains l.seats seat ≡ has_grant (take l.g-index l.grants) seat
