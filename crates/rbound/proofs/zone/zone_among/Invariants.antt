use Rattle.std.proofs.Common.{◌≡◌}
use Rattle.rbound.specs.Sweeps.{swept}
use Rattle.rbound.proofs.SweptZones.{HasGrown, outside}
use Rattle.rbound.proofs.zone.zone_among.Given as goal

abbrev pub invariant-loop-zone : goal.invariant-loop-zone
invariant-loop-zone l = (l.next ≡ swept l.needs l.zone) × HasGrown l.needs l.fn.places l.zone

abbrev pub decreases-loop-zone : goal.decreases-loop-zone
decreases-loop-zone l = outside l.needs l.zone
