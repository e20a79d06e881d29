use Rattle.std.proofs.Common.{◌≡◌, take}
use Rattle.rtrace_write.proofs.names.rows_of.Given as goal

-- there is a row for each name so far
abbrev pub invariant-loop-n : goal.invariant-loop-n
invariant-loop-n l = l.rows.items ≡ take l.n l.names
