-- What tasks would need if they issued each shape once, with its greatest lengths and its different asks.
use Rattle.std.specs.Prelude.{ℕ, zero, suc, ◌==◌, List, [], ◌∷◌, ◌++◌, map, IsTrue, if◌then◌else◌}
use Rattle.std.specs.List.{AllByRecursion}
use Rattle.rset.specs.Sets.{Set, all_below}
use Rattle.rbound.specs.Needs.{RequestNeeds, Needs}
use Rattle.rbound.specs.TaskNeeds.{with_ask}
use Rattle.rbound.specs.Bounds.{tasks_of}
use Rattle.rbound_history.specs.Shapes.{Shape, with_needed}

-- the shapes of a task in order, each as one request with its asks
abbrev pub requests_of_shapes : List Shape → ℕ → List RequestNeeds
requests_of_shapes [] task = []
requests_of_shapes (s ∷ ss) task = if s.task == task then record { request = s.request; asks = s.asks } ∷ requests_of_shapes ss task else requests_of_shapes ss task

-- those of each task by number
abbrev pub needs_of_shapes : ℕ → List Shape → Needs
needs_of_shapes tasks shapes = map (requests_of_shapes shapes) (tasks_of tasks)

-- everything that the shapes read and write is below q
abbrev pub AreBelow : ℕ → List Shape → Type 0
AreBelow q shapes = AllByRecursion (λ (s : Shape). IsTrue (all_below q s.request.reads) × IsTrue (all_below q s.request.writes)) shapes

-- these requests after the others of a task
abbrev pub with_requests : Needs → ℕ → List RequestNeeds → Needs
with_requests [] task more = []
with_requests (ns ∷ rest) zero more = (ns ++ more) ∷ rest
with_requests (ns ∷ rest) (suc task) more = ns ∷ with_requests rest task more

-- the last request of a task asks for these sets in turn
abbrev pub with_asks : Needs → ℕ → List Set → Needs
with_asks needs task [] = needs
with_asks needs task (part ∷ parts) = with_asks (with_ask needs task part) task parts

-- how many shapes of a task come before a place
abbrev pub number_before : List Shape → ℕ → ℕ → ℕ
number_before [] task place = 0
number_before (s ∷ ss) task zero = 0
number_before (s ∷ ss) task (suc place) = if s.task == task then suc (number_before ss task place) else number_before ss task place

-- the shapes of a task's requests, after others
abbrev pub shapes_of_task : List Shape → ℕ → List RequestNeeds → List Shape
shapes_of_task shapes task [] = shapes
shapes_of_task shapes task (n ∷ ns) = shapes_of_task (with_needed shapes task n) task ns

-- the shapes of the requests of the tasks from a number on, after others
abbrev pub shapes_from : List Shape → ℕ → Needs → List Shape
shapes_from shapes task [] = shapes
shapes_from shapes task (ns ∷ rest) = shapes_from (shapes_of_task shapes task ns) (suc task) rest

-- the shapes of needs, task by task
abbrev pub shapes_of : Needs → List Shape
shapes_of needs = shapes_from [] 0 needs
