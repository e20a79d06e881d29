use Rattle.rbound.specs.TaskNeeds.{needed_in}
use Rattle.rbound_table.proofs.PlaceZoneFacts.{zones_more}
use Rattle.rbound_table.proofs.zones.zones_of.Goals as goal

pub loop-l-preserved : goal.loop-l-preserved
loop-l-preserved c = zones_more (needed_in c.args.needs.now) c.loop-l.zones.items c.push.new.self.items c.loop-l.l c.zone_at-zone.result c.loop-l.invariant c.in_ok-push.ensures.items c.zone_at-zone.ensures
