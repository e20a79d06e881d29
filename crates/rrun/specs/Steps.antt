-- The steps of a run, which watchers are given.
use Rattle.std.specs.Prelude.{List, map, length}
use Rattle.rclaim.specs.Changes.{ChangeLists}
use Rattle.rclaim.specs.declared.event.Event.{Event}
use Rattle.rmodel.specs.State.{LockState, opening}
use Rattle.rmodel.specs.Watching.{steps_of}
use Rattle.rscript.specs.Scripts.{ScriptFields}
use Rattle.rtrace_form.specs.Heads.{opening_of}
use Rattle.rtrace_form.specs.Reports.{Entry, Report}

-- the steps of a report's history: each event, and what it changes after those before it
abbrev pub list_steps : Report → List (Event × ChangeLists)
list_steps report = steps_of (opening_of report.head) (map (λ (entry : Entry). entry.event) report.entries)

-- the state that the runtime of a script begins in: a seat for each task, and as many requests at once as there are tasks
abbrev pub opening_for : ScriptFields → LockState
opening_for p = opening (record { q = length p.resources; groups = p.groups }) (length p.tasks) (length p.tasks)
