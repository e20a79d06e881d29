use Rattle.std.proofs.Common.{sym, ◌∙◌}
use Rattle.rbound.specs.TaskNeeds.{needed_in}
use Rattle.rbound_table.proofs.PlaceZoneFacts.{found_zone, lone_zone}
use Rattle.rbound_table.proofs.zones.zone_at.Goals as goal

pub returns-then-not-has : goal.returns-then-not-has
returns-then-not-has c = c.one.ensures ∙ lone_zone (needed_in c.args.needs.now) c.args.places c.args.l c.requires.places (sym c.has.ensures ∙ c.if-not-has.true)

pub returns-then-has : goal.returns-then-has
returns-then-has c =
    found_zone (needed_in c.args.needs.now) c.args.zones.now c.args.l c.loop-zone.zone-index c.zone-item.result c.requires.zones c.loop-zone-test.true c.zone-item.is (sym c.has-in-loop-zone.ensures ∙ c.if-has.true)
