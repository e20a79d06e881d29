use Rattle.std.proofs.Common.{◌≡◌, ◌++◌, map, take}
use Rattle.rtrace_form.specs.Reports.{wait_line}
use Rattle.rtrace_form.specs.Waits.{no_bounds}
use Rattle.rtrace_write.specs.Open.{open_told}
use Rattle.rtrace_write.proofs.step.push_waits.Given as goal

-- the lines of the waits so far were appended
abbrev pub invariant-loop-wait : goal.invariant-loop-wait
invariant-loop-wait l = l.text ≡ l.fn.text ++ open_told l.names (map (wait_line no_bounds) (take l.wait-index l.ended))
