use Rattle.std.proofs.Common.{◌≡◌, ◌++◌, take}
use Rattle.rtrace_write.specs.Told.{leaves_from, told}
use Rattle.rtrace_write.proofs.ending.push_ledgers.Given as goal

-- the lines of the ledgers so far were appended
abbrev pub invariant-loop-place : goal.invariant-loop-place
invariant-loop-place l = l.page ≡ l.fn.page ++ told l.names (leaves_from 0 (take l.place l.ledgers))
