use Rattle.std.proofs.Common.{◌≡◌, ◌++◌, map, take}
use Rattle.rtrace_form.specs.Reports.{grant_line}
use Rattle.rtrace_write.specs.Open.{open_told}
use Rattle.rtrace_write.proofs.step.push_grants.Given as goal

-- the lines of the grants so far were appended
abbrev pub invariant-loop-change : goal.invariant-loop-change
invariant-loop-change l = l.text ≡ l.fn.text ++ open_told l.names (map grant_line (take l.change-index l.changes))
