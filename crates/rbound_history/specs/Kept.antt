-- How shapes are kept: each with its key, and its number among those of its task. Contracts of other crates do not mention it.
use Rattle.std.specs.Prelude.{◌≡◌, ◌<◌, ◌≤◌, ◌-◌, ◌||◌, ◌++◌, take, replicate, ℕ, Bool, true, false, List, [], ◌∷◌, map, length, slice_index, IsTrue}
use Rattle.std.specs.List.{AllByRecursion}
use Rattle.rset.specs.Sets.{Set}
use Rattle.rmodel.specs.Claims.{is_nested}
use Rattle.rbound.specs.Needs.{Needs}
use Rattle.rbound_history.specs.Shapes.{Shape, task_at}
use Rattle.rbound_history.specs.ShapeNeeds.{number_before, needs_of_shapes}
use Rattle.rbound_history.specs.Histories.{AreDifferent}
use Rattle.rbound_history.specs.ShapeKeys.{key_of}
use Rattle.rbound_history.specs.declared.table.Entry.{Entry}
use Rattle.rbound_history.specs.declared.table.Table.{Table}

-- the shape of an entry
abbrev pub shape_in : Entry → Shape
shape_in e = record { task = e.task; request = e.request; asks = map (λ a. a.set) e.asks.keys }

-- the shapes of a table
abbrev pub shapes_in : List Entry → List Shape
shapes_in entries = map shape_in entries

-- the list is empty
abbrev pub is_none : List Set → Bool
is_none [] = true
is_none (x ∷ xs) = false

-- a shape asks for sets only where it is nested
abbrev pub may_ask : Shape → Bool
may_ask s = is_nested s.request.kind || is_none s.asks

-- a table is of the shapes of its entries
pub record IsTable (t : Table) : Type 0 where
  pub keys : t.keys.keys ≡ map key_of (shapes_in t.entries.items)
  pub different : AreDifferent (shapes_in t.entries.items)
  pub tasks : AllByRecursion (λ (s : Shape). s.task < length t.counts.items) (shapes_in t.entries.items)
  pub asks : AllByRecursion (λ (s : Shape). IsTrue (may_ask s)) (shapes_in t.entries.items)
  pub long : length t.numbers.items ≡ length t.entries.items
  pub numbers : (place : ℕ) → place < length t.entries.items → slice_index t.numbers.items place ≡ number_before (shapes_in t.entries.items) (task_at (shapes_in t.entries.items) place) place
  pub counts : (task : ℕ) → task < length t.counts.items → slice_index t.counts.items task ≡ number_before (shapes_in t.entries.items) task (length t.entries.items)

-- and there are no more tasks than numbers for them
pub record IsKept (t : Table) : Type 0 where
  pub table : IsTable t
  pub few : length t.counts.items ≤ 255

-- what is needed when the shapes of the tasks before this number were added: the other tasks need nothing yet
abbrev pub gathered : List Shape → ℕ → ℕ → Needs
gathered shapes tasks task = take task (needs_of_shapes tasks shapes) ++ replicate (tasks - task) []
