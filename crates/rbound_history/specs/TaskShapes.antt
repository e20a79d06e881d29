-- The shapes of the requests of some tasks, as contracts see them.
use Rattle.std.specs.Prelude.{ℕ, List, refl}
use Rattle.std.specs.Coded.{Coded, code_by, coded×, coded_ℕ, coded_list}
use Rattle.rset.specs.Sets.{Set}
use Rattle.rclaim.specs.Codes.{set_code}
use Rattle.rclaim.specs.Requests.{RequestFields, request_code}
use Rattle.rbound_history.specs.Shapes.{Shape}

-- the number of tasks, and their shapes in the order in which they first came
pub record TaskShapes : Type 0 where
  pub tasks : ℕ
  pub shapes : List Shape

abbrev pub shape_code : Coded Shape
shape_code =
    code_by (ℕ × (RequestFields × List Set)) (coded× coded_ℕ (coded× request_code (coded_list set_code))) (λ s. (s.task, (s.request, s.asks))) (λ p. record { task = p.0; request = p.1.0; asks = p.1.1 }) (λ _. refl)

abbrev pub task_shapes_code : Coded TaskShapes
task_shapes_code = code_by (ℕ × List Shape) (coded× coded_ℕ (coded_list shape_code)) (λ s. (s.tasks, s.shapes)) (λ p. record { tasks = p.0; shapes = p.1 }) (λ _. refl)
