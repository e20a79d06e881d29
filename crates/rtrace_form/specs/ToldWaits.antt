-- What is promised of the waits in a report.
use Rattle.std.specs.Prelude.{◌≡◌, ℕ, Bool, true, false, List, ◌++◌, Option, filter, map}
use Rattle.std.specs.List.{list_any}
use Rattle.rbound.specs.Bounds.{Numbers, IsWithin}
use Rattle.rcover_laws.specs.declared.wait_end.WaitEnd.{WaitEnd}
use Rattle.rtrace_form.specs.Heads.{Head}
use Rattle.rtrace_form.specs.Lines.{Line, Waits}
use Rattle.rtrace_form.specs.Waits.{ended_in, all_ended}
use Rattle.rtrace_form.specs.Reports.{Entry, Report, wait_line, entry_lines, lines_of}

-- a line is of a wait that is over
abbrev pub tells_wait : Line → Bool
tells_wait (Waits seat which cover bound) = true
tells_wait _ = false

-- the last lines of an entry are those of just the waits that its event ends, in their order, and no line before them is of a wait
pub record EachWaitIsTold (bounds : WaitEnd → Numbers) (head : Head) (earlier : List Entry) (entry : Entry) : Type 0 where
  pub before : List Line
  pub none : list_any tells_wait before ≡ false
  pub are : entry_lines true bounds head earlier entry ≡ before ++ map (wait_line bounds) (ended_in head earlier entry.event)

-- the lines of waits in a report are those of just the waits that its history ends, in their order
abbrev pub AllWaitsAreTold : (WaitEnd → Numbers) → Option ℕ → Report → Type 0
AllWaitsAreTold bounds told r = filter tells_wait (lines_of true bounds told r) ≡ map (wait_line bounds) (all_ended r.head r.entries)

-- if the line is of a wait, no number of its cover is above that of its bound
abbrev pub IsWithinBound : Line → Type 0
IsWithinBound (Waits seat which cover bound) = IsWithin cover bound
IsWithinBound _ = Unit {0}
