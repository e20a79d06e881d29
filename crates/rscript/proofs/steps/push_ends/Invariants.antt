use Rattle.std.proofs.Common.{◌≡◌, take}
use Rattle.rscript.specs.Sections.{ends_from}
use Rattle.rscript.proofs.steps.push_ends.Given as goal

-- the ends among the statements so far were added
abbrev pub invariant-loop-i : goal.invariant-loop-i
invariant-loop-i l = l.ends.items ≡ ends_from 0 (take l.i l.statements)
