use Rattle.std.proofs.Common.{◌≡◌, map}
use Rattle.std.specs.List.{range_with_len}
use Rattle.rbound.specs.TaskNeeds.{needed_in}
use Rattle.rbound_table.specs.PlaceZones.{zone_at}
use Rattle.rbound_table.proofs.zones.zones_of.Given as goal

abbrev pub invariant-loop-l : goal.invariant-loop-l
invariant-loop-l l = l.zones.items ≡ map (zone_at (needed_in l.needs)) (range_with_len 0 l.l)
