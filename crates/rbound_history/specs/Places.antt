-- The places of the shapes of each task. Contracts of other crates do not mention them.
use Rattle.std.specs.Prelude.{◌≡◌, ◌<◌, ◌==◌, ℕ, suc, List, [], ◌∷◌, map, length, slice_index_or, if◌then◌else◌}
use Rattle.std.specs.declared.vec.Vec.{Vec}
use Rattle.std.specs.declared.alloc.Global.{Global}
use Rattle.rbound_history.specs.Shapes.{Shape}

-- the places of the shapes of a task, where the first of all shapes is at this place
abbrev pub places_from : ℕ → List Shape → ℕ → List ℕ
places_from place [] task = []
places_from place (s ∷ ss) task = if s.task == task then place ∷ places_from (suc place) ss task else places_from (suc place) ss task

-- the places of the shapes of a task, in order
abbrev pub places_of : List Shape → ℕ → List ℕ
places_of shapes task = places_from 0 shapes task

-- the lists in some vectors
abbrev pub lists_in : List (Vec ℕ Global) → List (List ℕ)
lists_in vectors = map (λ v. v.items) vectors

-- the list in one of them
abbrev pub list_at : List (Vec ℕ Global) → ℕ → List ℕ
list_at vectors task = slice_index_or (lists_in vectors) task []

-- for each task the places of its shapes
pub record ArePlaces (shapes : List Shape) (tasks : ℕ) (places : List (Vec ℕ Global)) : Type 0 where
  pub long : length places ≡ tasks
  pub each : (task : ℕ) → task < tasks → list_at places task ≡ places_of shapes task
