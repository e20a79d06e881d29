use Rattle.std.proofs.Common.{◌≡◌, ◌<◌, ℕ, take}
use Rattle.std.specs.FinSet.{contains}
use Rattle.rset.specs.declared.TheConstants.{SEATS}
use Rattle.rpost.specs.Granted.{has_grant}
use Rattle.rpost.proofs.granted.seats_granted.Given as goal

abbrev pub invariant-loop-g : goal.invariant-loop-g
invariant-loop-g l = (seat : ℕ) → seat < SEATS → contains l.seats seat ≡ has_grant (take l.g-index l.grants) seat
