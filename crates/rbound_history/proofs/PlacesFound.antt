-- What the bounds of a whole history find by the key of a wait.
use Rattle.std.proofs.Common.{◌≡◌, ◌<◌, ℕ, List, ◌++◌, length, slice_index_or, sym, ap, subst, ◌∙◌, arith}
use Rattle.std.proofs.lemmas.List.FromFn.{get_or-map-range_with_len, length-map-range_with_len}
use Rattle.rexpand.specs.Groups.{ReadGroups}
use Rattle.rclaim.specs.declared.event.Event.{Event}
use Rattle.rmodel.specs.State.{opening}
use Rattle.rbound.specs.Bounds.{Numbers}
use Rattle.rbound.specs.declared.which.Which.{Which}
use Rattle.rbound.specs.TaskNeeds.{requests_of, bound_of}
use Rattle.rbound_table.specs.BoundedNeeds.{BoundedNeeds}
use Rattle.rcover_laws.specs.declared.wait_end.WaitEnd.{WaitEnd}
use Rattle.rbound_history.specs.Shapes.{task_at}
use Rattle.rbound_history.specs.ShapeNeeds.{needs_of_shapes, number_before}
use Rattle.rbound_history.proofs.ShapeRequests.{tasks_at}
use Rattle.rbound_history.proofs.TableGrows.{task_below, number_within}
use Rattle.rbound_history.specs.History.{shapes_told}
use Rattle.rbound_history.specs.Keys.{IsKeyOf}
use Rattle.rbound_history.specs.Knows.{AreBoundsOf, place_in, bound_by}
use Rattle.rbound_history.specs.declared.bounds.Place.{Place}
use Rattle.rbound_history.specs.declared.bounds.WaitBounds.{WaitBounds}
use Rattle.rbound_history.specs.declared.key.BoundKey.{BoundKey}
use Rattle.rbound_history.proofs.HistoryShapes.{shapes_seated}
use Rattle.rbound_history.proofs.WaitKeys.{is_found}

-- at this place the table has the bound of the wait
pub record IsBoundAt (table : BoundedNeeds) (which : Which) (numbers : Numbers) (place : Place) : Type 0 where
  pub task : place.task < length table.needs.tasks
  pub number : place.number < length (requests_of table.needs.tasks place.task)
  pub bound : bound_of table.needs table.cap place.task place.number which ≡ numbers

pub record IsBoundFound (b : WaitBounds) (groups : ReadGroups) (seats cap : ℕ) (all : List Event) (w : WaitEnd) (key : BoundKey) : Type 0 where
  pub within : key.shape < length b.places.items
  pub at : (place : Place) → place ≡ slice_index_or b.places.items key.shape place → IsBoundAt b.bounds key.which (bound_by groups seats cap all w) place

pub bound_found : (b : WaitBounds) (groups : ReadGroups) (seats cap : ℕ) (es rest : List Event) (w : WaitEnd) (key : BoundKey) → AreBoundsOf b groups seats cap (es ++ rest) → IsKeyOf groups seats cap es w key → IsBoundFound b groups seats cap (es ++ rest) w key
bound_found b groups seats cap es rest w key bounds is =
    record { within = omega (arith, within, ap length bounds.places, length-map-range_with_len (place_in (shapes_told (es ++ rest))) 0 (length (shapes_told (es ++ rest)))); at = λ place found. at place found }
  where
    within : key.shape < length (shapes_told (es ++ rest))
    within = subst (λ (k : BoundKey). k.shape < length (shapes_told (es ++ rest))) (sym is.is) (is_found groups seats cap es rest w bounds.accepted is.ended).within

    at : (place : Place) → place ≡ slice_index_or b.places.items key.shape place → IsBoundAt b.bounds key.which (bound_by groups seats cap (es ++ rest) w) place
    at place found =
        let ss = shapes_told (es ++ rest) in
        let seated = shapes_seated (opening groups seats cap) (es ++ rest) bounds.accepted in
        let there : place ≡ place_in ss key.shape =
        found ∙ ap (λ ps. slice_index_or ps key.shape place) bounds.places ∙ get_or-map-range_with_len (place_in ss) 0 (length ss) key.shape key.shape place within (omega arith) in
        let below = task_below seats ss key.shape seated within in
        let table : BoundedNeeds = record { needs = record { groups = groups; tasks = needs_of_shapes seats ss }; cap = cap } in
        let in_table : IsBoundAt table key.which (bound_by groups seats cap (es ++ rest) w) (place_in ss key.shape) =
        record {
          task = omega (arith, below, tasks_at seats ss);
          number = number_within seats ss key.shape seated within;
          bound = subst (λ (k : BoundKey). bound_of table.needs cap (task_at ss k.shape) (number_before ss (task_at ss k.shape) k.shape) k.which ≡ bound_by groups seats cap (es ++ rest) w) (sym is.is) (is_found groups seats cap es rest w bounds.accepted is.ended).bound;
        } in
        subst (λ (p : BoundedNeeds × Place). IsBoundAt p.0 key.which (bound_by groups seats cap (es ++ rest) w) p.1) (λ i. (sym bounds.needs i, sym there i)) in_table
