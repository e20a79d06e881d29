use Rattle.std.proofs.Common.{◌≡◌, ◌++◌, map, take}
use Rattle.rtrace_form.specs.Lines.{Does}
use Rattle.rtrace_write.specs.Open.{open_told}
use Rattle.rtrace_write.proofs.step.push_acts.Given as goal

-- the lines of the acts so far were appended
abbrev pub invariant-loop-act : goal.invariant-loop-act
invariant-loop-act l = l.text ≡ l.fn.text ++ open_told l.names (map Does (take l.act-index l.acts))
