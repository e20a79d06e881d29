use Rattle.std.proofs.Common.{◌≡◌, ◌++◌, map, take}
use Rattle.rtrace_form.specs.Lines.{HasResource}
use Rattle.rtrace_write.specs.Told.{told}
use Rattle.rtrace_write.proofs.head.push_resources.Given as goal

-- the lines of the resources so far were appended
abbrev pub invariant-loop-place : goal.invariant-loop-place
invariant-loop-place l = l.page ≡ l.fn.page ++ told l.names (map HasResource (take l.place l.names.resources))
