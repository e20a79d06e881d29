-- What is known of the reported bounds, and of their history.
use Rattle.std.specs.Prelude.{◌≡◌, ℕ, List}
use Rattle.std.specs.List.{AllByRecursion}
use Rattle.rexpand.specs.Groups.{ReadGroups}
use Rattle.rclaim.specs.declared.event.Event.{Event}
use Rattle.rmodel.specs.State.{opening}
use Rattle.rmodel.specs.Steps.{AreAccepted}
use Rattle.rbound.specs.Bounds.{Numbers}
use Rattle.rbound.specs.TaskNeeds.{bound_of}
use Rattle.rbound_history.specs.Shapes.{task_at}
use Rattle.rbound_history.specs.ShapeNeeds.{needs_of_shapes, number_before}
use Rattle.rbound_history.specs.History.{shapes_told}
use Rattle.rcover_laws.specs.declared.wait_end.WaitEnd.{WaitEnd}
use Rattle.rbound_history.specs.declared.key.BoundKey.{BoundKey}
use Rattle.rbound_history.specs.Keys.{HadKey}
use Rattle.rbound_history.specs.Knows.{Knows}
use Rattle.rtrace.specs.Told.{Told}
use Rattle.rtrace.specs.Kept.{Keyed, told_in, Tells}
use Rattle.rtrace.specs.declared.key.Key.{Key}
use Rattle.rtrace.specs.declared.kept_bounds.Kept.{Kept}
use Rattle.rtrace.specs.declared.told_bounds.ToldBounds.{ToldBounds}

-- the bound of the waits that have a key, by what a whole history needs
abbrev pub bound_of_key : ReadGroups → ℕ → ℕ → List Event → BoundKey → Numbers
bound_of_key groups seats cap events key =
    let shapes = shapes_told events in
    bound_of (record { groups = groups; tasks = needs_of_shapes seats shapes }) cap (task_at shapes key.shape) (number_before shapes (task_at shapes key.shape) key.shape) key.which

-- each entry's key was that of a wait
abbrev pub AreOfWaits : ReadGroups → ℕ → ℕ → List Event → List (Key × Kept) → Type 0
AreOfWaits groups seats cap events entries = AllByRecursion (λ (entry : Key × Kept). (wait : WaitEnd) × HadKey groups seats cap events wait entry.0.key) entries

-- it was given these accepted events, and these bounds of waits that they ended
pub record KnowsTold (bounds : ToldBounds) (groups : ReadGroups) (seats cap : ℕ) (events : List Event) (items : List Told) : Type 0 where
  pub accepted : AreAccepted (opening groups seats cap) events
  pub needs : Knows bounds.needs seats events
  pub keyed : List Keyed
  pub told : items ≡ told_in keyed
  pub keys : AllByRecursion (λ (one : Keyed). HadKey groups seats cap events one.told.wait one.key) keyed
  pub kept : Tells bounds.kept.entries keyed
  pub of_waits : AreOfWaits groups seats cap events bounds.kept.entries
