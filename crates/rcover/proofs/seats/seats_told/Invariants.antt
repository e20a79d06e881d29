use Rattle.std.proofs.Common.{◌≡◌, ◌<◌, ℕ, take}
use Rattle.std.specs.FinSet.{contains}
use Rattle.rset.specs.declared.TheConstants.{SEATS}
use Rattle.rcover.specs.Lines.{tells_write_of}
use Rattle.rcover.proofs.seats.seats_told.Given as goal

abbrev pub invariant-loop-s : goal.invariant-loop-s
invariant-loop-s l = (seat : ℕ) → seat < SEATS → contains l.seats seat ≡ tells_write_of (take l.s-index l.statuses) seat
