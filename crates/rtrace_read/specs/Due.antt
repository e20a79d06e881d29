-- The lines that are due after an event.
use Rattle.std.specs.Prelude.{List, ◌++◌, map}
use Rattle.rclaim.specs.Changes.{ChangeLists}
use Rattle.rcover_laws.specs.declared.wait_end.WaitEnd.{WaitEnd}
use Rattle.rtrace_form.specs.Lines.{Line}
use Rattle.rtrace_form.specs.Reports.{status_line, grant_line, wait_line}
use Rattle.rtrace_form.specs.Waits.{no_bounds}

-- the lines of changes, none of which is to waiting
abbrev pub change_list : ChangeLists → List Line
change_list changes = map status_line changes.statuses ++ map grant_line changes.grants

-- the lines of changes, and after them those of waits, without bounds
abbrev pub due_list : ChangeLists → List WaitEnd → List Line
due_list changes ends = change_list changes ++ map (wait_line no_bounds) ends
