-- What a watcher becomes after some steps, without recursion over them.
use Rattle.std.specs.Prelude.{◌≡◌, ℕ, ◌+◌, ◌≤◌, List, [], ◌∷◌, ◌++◌, length, map, min, Some}
use Rattle.rclaim.specs.Changes.{ChangeLists}
use Rattle.rclaim.specs.declared.event.Event.{Event}
use Rattle.rwatch.specs.Weights.{weight, greatest}
use Rattle.rwatch.specs.Seen.{Seen, told_all}
use Rattle.rwatch.specs.declared.kinds.WatchKind.{WatchKind}

-- the weights of steps together
abbrev pub weights : WatchKind → List (Event × ChangeLists) → ℕ
weights kind [] = 0
weights kind (step ∷ steps) = weight kind step.0 step.1 + weights kind steps

-- a watcher after these steps: its kind is as it was, its count has grown by their weights, and where it kept all events so far and has room for these, it has kept these too, in order
pub record HasHeard (steps : List (Event × ChangeLists)) (before after : Seen) : Type 0 where
  pub kind : after.kind ≡ before.kind
  pub count : before.count ≤ greatest → after.count ≡ min (before.count + weights before.kind steps) greatest
  pub kept : (events : List Event) → before.kept ≡ Some events → length steps ≤ before.room → after.kept ≡ Some (events ++ map (λ step. step.0) steps)

abbrev pub StepsAreHeard : Type 0
StepsAreHeard = (steps : List (Event × ChangeLists)) (w : Seen) → HasHeard steps w (told_all steps w)
