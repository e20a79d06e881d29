use Rattle.std.proofs.Common.{◌≡◌, ◌++◌, map, take}
use Rattle.rtrace_form.specs.Lines.{HasGroup}
use Rattle.rtrace_write.specs.Told.{told}
use Rattle.rtrace_write.proofs.head.push_groups.Given as goal

-- the lines of the groups so far were appended
abbrev pub invariant-loop-i : goal.invariant-loop-i
invariant-loop-i l = l.page ≡ l.fn.page ++ told l.names (map HasGroup (take l.i l.groups.groups))
