use Rattle.std.proofs.Common.{◌≡◌, ◌++◌, map, take}
use Rattle.rtrace_form.specs.Lines.{HasTask}
use Rattle.rtrace_write.specs.Told.{told}
use Rattle.rtrace_write.proofs.head.push_tasks.Given as goal

-- the lines of the tasks so far were appended
abbrev pub invariant-loop-seat : goal.invariant-loop-seat
invariant-loop-seat l = l.page ≡ l.fn.page ++ told l.names (map HasTask (take l.seat l.names.tasks))
