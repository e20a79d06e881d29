-- The steps that the watchers of a lock are given.
use Rattle.std.specs.Prelude.{List, [], ◌∷◌}
use Rattle.rclaim.specs.Changes.{ChangeLists}
use Rattle.rclaim.specs.declared.event.Event.{Event}
use Rattle.rmodel.specs.Changes.{changes_between}
use Rattle.rmodel.specs.State.{LockState}
use Rattle.rmodel.specs.Steps.{next}

-- the steps of these events: each event, and what it changes
abbrev pub steps_of : LockState → List Event → List (Event × ChangeLists)
steps_of s [] = []
steps_of s (e ∷ es) = (e, changes_between s (next s e)) ∷ steps_of (next s e) es
