use Rattle.std.proofs.Common.{◌≡◌, ◌<◌, ◌&&◌, ℕ, not, take}
use Rattle.std.specs.FinSet.{contains}
use Rattle.rset.specs.declared.TheConstants.{SEATS}
use Rattle.rcover.specs.Waiting.{has_end}
use Rattle.rcover.proofs.waiting.note_ended.Given as goal

abbrev pub invariant-loop-end : goal.invariant-loop-end
invariant-loop-end l = (seat : ℕ) → seat < SEATS → contains l.waiting seat ≡ (not (has_end (take l.end-index l.ended) seat) && contains l.fn.waiting seat)
