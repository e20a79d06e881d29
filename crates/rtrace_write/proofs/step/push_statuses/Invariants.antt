use Rattle.std.proofs.Common.{◌≡◌, ◌++◌, take}
use Rattle.std.specs.Prelude.{flat_map}
use Rattle.rclaim.specs.declared.changes.StatusChange.{StatusChange}
use Rattle.rtrace_form.specs.Reports.{status_lines}
use Rattle.rtrace_write.specs.Open.{open_told}
use Rattle.rtrace_write.proofs.step.push_statuses.Given as goal

-- the lines of the statuses so far were appended
abbrev pub invariant-loop-change : goal.invariant-loop-change
invariant-loop-change l = l.text ≡ l.fn.text ++ open_told l.names (flat_map (λ (c : StatusChange). status_lines c.seat c.write_half c.status) (take l.change-index l.changes))
