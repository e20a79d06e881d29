-- What is known after some events of a history.
use Rattle.std.specs.Prelude.{◌≡◌, ℕ, true, Option, List, [], length}
use Rattle.rclaim.specs.declared.event.Event.{Event}
use Rattle.rbound.specs.Bounds.{Numbers}
use Rattle.rcover_laws.specs.Ended.{ended_by}
use Rattle.rcover_laws.specs.declared.wait_end.WaitEnd.{WaitEnd}
use Rattle.rmodel.specs.Steps.{Comes}
use Rattle.rbound_history.specs.Knows.{bound_by as bound_by_events}
use Rattle.rcover.specs.Past.{Past, start_of, state_of}
use Rattle.rtrace_form.specs.Heads.{Head, read_groups}
use Rattle.rtrace_form.specs.Fields.{Names}
use Rattle.rtrace_form.specs.Reports.{Entry, history_lines}
use Rattle.rtrace_form.specs.Waits.{events_of, all_ended, no_bounds}
use Rattle.rtrace_write.specs.Gathered.{KnowsGathered}
use Rattle.rtrace_write.specs.Open.{open_told}
use Rattle.rtrace_write.specs.declared.gathered.Gathered.{Gathered}

-- the events of these entries, over what a head declares
abbrev pub past_in : Head → List Entry → Past
past_in head entries = record { groups = read_groups head; seats = length head.tasks; cap = head.cap; events = events_of entries }

-- an event comes after these, and it ends these waits
pub record ComesNext (p : Past) (e : Event) (ws : List WaitEnd) : Type 0 where
  pub comes : Comes (state_of p) e
  pub ended : ws ≡ ended_by (start_of p) p.events e

-- this open text has the lines of these entries, and the waits that they ended were gathered
pub record IsToldWhole (text : List (Option ℕ)) (gathered : Gathered) (names : Names) (head : Head) (entries : List Entry) : Type 0 where
  pub told : text ≡ open_told names (history_lines true no_bounds head [] entries)
  pub known : KnowsGathered gathered (past_in head entries) (all_ended head entries)

-- the bound of a wait, by what the tasks need in all these events
unfoldable pub bound_by : Past → WaitEnd → Numbers
bound_by p w = bound_by_events p.groups p.seats p.cap p.events w
