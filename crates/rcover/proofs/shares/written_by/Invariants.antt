use Rattle.std.proofs.Common.{◌≡◌, ℕ, take}
use Rattle.std.specs.FinSet.{contains}
use Rattle.rcover.specs.Shares.{is_written}
use Rattle.rcover.proofs.shares.written_by.Given as goal

abbrev pub invariant-loop-s : goal.invariant-loop-s
invariant-loop-s l = (k : ℕ) → contains l.written k ≡ is_written l.shares (take l.s-index l.statuses) k
