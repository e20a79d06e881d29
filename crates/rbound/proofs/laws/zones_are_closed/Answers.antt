use Rattle.rbound.proofs.ClosedZones.{zones_are_closed}
use Rattle.rbound.proofs.laws.zones_are_closed.Goals as goal

pub returns : goal.returns
returns c = zones_are_closed
