-- What is known of a history that was given event by event, and of the bounds of its waits.
use Rattle.std.specs.Prelude.{◌≡◌, ◌<◌, ℕ, List, length, map, slice_get, Some}
use Rattle.std.specs.List.{range_with_len}
use Rattle.rexpand.specs.Groups.{ReadGroups}
use Rattle.rclaim.specs.declared.event.Event.{Event}
use Rattle.rmodel.specs.State.{opening}
use Rattle.rmodel.specs.Steps.{AreAccepted}
use Rattle.rbound.specs.Bounds.{Numbers}
use Rattle.rbound.specs.TaskNeeds.{bound_of}
use Rattle.rcover_laws.specs.History.{history_needs, number_from}
use Rattle.rcover_laws.specs.declared.wait_end.WaitEnd.{WaitEnd}
use Rattle.rbound_history.specs.Shapes.{Shape, task_at}
use Rattle.rbound_history.specs.ShapeNeeds.{needs_of_shapes, number_before}
use Rattle.rbound_history.specs.History.{shapes_told}
use Rattle.rbound_history.specs.Keys.{place_of, ask_of}
use Rattle.rbound_history.specs.declared.growing.GrowingNeeds.{GrowingNeeds}
use Rattle.rbound_history.specs.declared.bounds.WaitBounds.{WaitBounds}
use Rattle.rbound_history.specs.declared.bounds.Place.{Place}

-- needs were given these events: their shapes are those of the requests, and for each seat they know the place of the last request's shape, and its last ask
pub record Knows (needs : GrowingNeeds) (seats : ℕ) (es : List Event) : Type 0 where
  pub shapes : needs.shapes ≡ record { tasks = seats; shapes = shapes_told es }
  pub seated : length needs.last.items ≡ seats
  pub last : (seat : ℕ) → seat < seats → slice_get needs.last.items seat ≡ Some (record { place = place_of es seat; ask = ask_of es seat })

-- the place of a shape among those of all tasks: its task, and its number there
abbrev pub place_in : List Shape → ℕ → Place
place_in shapes place = record { task = task_at shapes place; number = number_before shapes (task_at shapes place) place }

-- these are the places of all shapes
abbrev pub ArePlaces : List Shape → List Place → Type 0
ArePlaces shapes places = places ≡ map (place_in shapes) (range_with_len 0 (length shapes))

-- the bounds are those of all waits of a history of accepted events
pub record AreBoundsOf (bounds : WaitBounds) (groups : ReadGroups) (seats cap : ℕ) (es : List Event) : Type 0 where
  pub accepted : AreAccepted (opening groups seats cap) es
  pub needs : bounds.bounds ≡ record { needs = record { groups = groups; tasks = needs_of_shapes seats (shapes_told es) }; cap = cap }
  pub places : ArePlaces (shapes_told es) bounds.places.items

-- the bound of a wait, by what a whole history needs
abbrev pub bound_by : ReadGroups → ℕ → ℕ → List Event → WaitEnd → Numbers
bound_by groups seats cap es w = bound_of (record { groups = groups; tasks = history_needs seats es }) cap w.seat (number_from es w.stamp w.seat) w.which
