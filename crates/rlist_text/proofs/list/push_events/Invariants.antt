use Rattle.std.proofs.Common.{◌≡◌, ◌++◌, map, take}
use Rattle.rtrace_form.specs.Lines.{Happens}
use Rattle.rtrace_write.specs.Told.{told}
use Rattle.rlist_text.proofs.list.push_events.Given as goal

-- the lines of the events so far were appended
abbrev pub invariant-loop-entry : goal.invariant-loop-entry
invariant-loop-entry g l = l.page ≡ l.fn.page ++ told l.names (map (λ entry. Happens entry.event) (take l.entry-index l.entries))
