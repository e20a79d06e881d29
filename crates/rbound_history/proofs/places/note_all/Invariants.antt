use Rattle.std.proofs.Common.{take}
use Rattle.rbound_history.specs.Kept.{shapes_in}
use Rattle.rbound_history.specs.Places.{ArePlaces}
use Rattle.rbound_history.proofs.places.note_all.Given as goal

abbrev pub invariant-loop-place : goal.invariant-loop-place
invariant-loop-place l = ArePlaces (shapes_in (take l.place l.fn.entries)) l.fn.tasks l.places.items
