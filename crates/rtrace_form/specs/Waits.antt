-- The waits that the events of a history end, and the bound of each by what the whole history needs.
use Rattle.std.specs.Prelude.{List, [], ◌∷◌, ◌++◌, length, map}
use Rattle.rclaim.specs.declared.event.Event.{Event}
use Rattle.rbound.specs.Bounds.{Numbers, no_wait}
use Rattle.rbound.specs.TaskNeeds.{TaskNeeds, bound_of}
use Rattle.rbound.specs.declared.which.Which.{Which}
use Rattle.rbound.specs.declared.which.Which.TheVariants as which
use Rattle.rcover_laws.specs.Ended.{ended_by}
use Rattle.rcover_laws.specs.History.{history_needs, number_from}
use Rattle.rcover_laws.specs.declared.wait_end.WaitEnd.{WaitEnd}
use Rattle.rvalue.specs.Entries.{EntryFields}
use Rattle.rvalue.specs.declared.ledger.Edit.{Edit}
use Rattle.rtrace_form.specs.Heads.{Head, read_groups, opening_of}
use Rattle.rtrace_form.specs.declared.word.Stage.{Stage}
use Rattle.rtrace_form.specs.declared.word.Stage.TheVariants as stage

-- the events of entries
abbrev pub events_of : List (EntryFields Edit) → List Event
events_of entries = map (λ (entry : EntryFields Edit). entry.event) entries

-- which wait of its request a record reports: for an ask it does not say which one
abbrev pub stage_of : Which → Stage
stage_of which.First = stage.First
stage_of which.Rise = stage.Rise
stage_of (which.Ask number) = stage.Ask

-- the numbers of the cover of a wait
abbrev pub cover_of : WaitEnd → Numbers
cover_of w = record { reads = w.reads; writes = w.writes; units = w.units }

-- the waits that an event after earlier entries ends, by rising stamp
unfoldable pub ended_in : Head → List (EntryFields Edit) → Event → List WaitEnd
ended_in head earlier e = ended_by (opening_of head) (events_of earlier) e

-- the waits that the events of entries after earlier ones end, one event after another
unfoldable pub ended_from : Head → List (EntryFields Edit) → List (EntryFields Edit) → List WaitEnd
ended_from head earlier [] = []
ended_from head earlier (entry ∷ entries) = ended_in head earlier entry.event ++ ended_from head (earlier ++ entry ∷ []) entries

-- all waits that a history ends, in their order
abbrev pub all_ended : Head → List (EntryFields Edit) → List WaitEnd
all_ended head entries = ended_from head [] entries

-- what the tasks need by all entries of a history
abbrev pub needs_in : Head → List (EntryFields Edit) → TaskNeeds
needs_in head entries = record { groups = read_groups head; tasks = history_needs (length head.tasks) (events_of entries) }

-- the bound of a wait, by what the tasks need in the whole history
unfoldable pub bound_in : Head → List (EntryFields Edit) → WaitEnd → Numbers
bound_in head entries w = bound_of (needs_in head entries) head.cap w.seat (number_from (events_of entries) w.stamp w.seat) w.which

-- no bound at all: stands in for bounds while a history is not complete
abbrev pub no_bounds : WaitEnd → Numbers
no_bounds w = no_wait
