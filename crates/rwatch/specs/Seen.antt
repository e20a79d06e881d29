-- What contracts see of a watcher, and what a step makes of it.
use Rattle.std.specs.Prelude.{ℕ, ◌-◌, nat_lt, List, [], ◌∷◌, ◌++◌, fold, map, Option, Some, None, option_map, slice_get, slice_index_or, if◌then◌else◌}
use Rattle.rclaim.specs.Changes.{ChangeLists}
use Rattle.rclaim.specs.declared.event.Event.{Event}
use Rattle.rwatch.specs.Weights.{count_after}
use Rattle.rwatch.specs.declared.kinds.WatchKind.{WatchKind}
use Rattle.rwatch.specs.declared.kinds.WatchKind.TheVariants as kinds

-- what it counts, and its count; how many more events it has room for, and the events that it was given, as long as it keeps them all
pub record Seen : Type 0 where
  pub kind : WatchKind
  pub count : ℕ
  pub room : ℕ
  pub kept : Option (List Event)

-- the room that is left after another event
abbrev pub room_after : ℕ → Option (List Event) → ℕ
room_after room None = 0
room_after room (Some events) = room - 1

-- the events that it then keeps: all, where there was room
abbrev pub kept_after : ℕ → Option (List Event) → Event → Option (List Event)
kept_after room None event = None
kept_after room (Some events) event = if nat_lt 0 room then Some (events ++ event ∷ []) else None

-- a watcher after a step
abbrev pub told : Event → ChangeLists → Seen → Seen
told event changes w = record {
  kind = w.kind;
  count = count_after w.kind w.count event changes;
  room = room_after w.room w.kept;
  kept = kept_after w.room w.kept event;
}

-- a watcher after some steps in order
abbrev pub told_all : List (Event × ChangeLists) → Seen → Seen
told_all steps w = fold (λ v (step : Event × ChangeLists). told step.0 step.1 v) w steps

-- the watchers, if there are any, after a step
abbrev pub watched_next : Event → ChangeLists → Option (List Seen) → Option (List Seen)
watched_next event changes watched = option_map (map (told event changes)) watched

-- and after some steps in order
abbrev pub watched_after : List (Event × ChangeLists) → Option (List Seen) → Option (List Seen)
watched_after steps watched = option_map (map (told_all steps)) watched

-- the kept event with this number, counted from 0
abbrev pub event_at : Option (List Event) → ℕ → Option Event
event_at None i = None
event_at (Some events) i = slice_get events i

-- a watcher that was given nothing
abbrev pub nobody : Seen
nobody = record { kind = kinds.Issues; count = 0; room = 0; kept = None }

-- the watcher at a place
abbrev pub watcher_at : List Seen → ℕ → Seen
watcher_at all i = slice_index_or all i nobody
