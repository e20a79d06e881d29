use Rattle.std.proofs.Common.{◌≡◌, ℕ, take}
use Rattle.std.specs.FinSet.{contains}
use Rattle.rcover.specs.Lines.{is_touched}
use Rattle.rcover.proofs.lines.touched_by.Given as goal

abbrev pub invariant-loop-s : goal.invariant-loop-s
invariant-loop-s l = (seat : ℕ) → contains l.touched seat ≡ is_touched l.behind l.lost (take l.s-index l.statuses) seat
