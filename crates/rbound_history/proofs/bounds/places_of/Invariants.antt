use Rattle.std.specs.Prelude.{◌≡◌, map}
use Rattle.std.specs.List.{range_with_len}
use Rattle.rbound_history.specs.Knows.{place_in}
use Rattle.rbound_history.proofs.bounds.places_of.Given as goal

abbrev pub invariant-loop-shape : goal.invariant-loop-shape
invariant-loop-shape l = l.places.items ≡ map (place_in l.fn.shapes.shapes) (range_with_len 0 l.shape)
