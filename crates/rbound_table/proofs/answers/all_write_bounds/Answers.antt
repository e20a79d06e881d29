use Rattle.rbound_table.proofs.AnswerFacts.{bounds_put}
use Rattle.rbound_table.proofs.answers.all_write_bounds.Goals as goal

pub loop-l-preserved : goal.loop-l-preserved
loop-l-preserved c =
    bounds_put c.args.tables.now c.args.tasks c.args.cap c.args.zones.now c.loop-l.writes.items c.push.new.self.items c.loop-l.l c.in_ok-place_bounds.field-0 c.zone_in-zone.result c.loop-l.invariant c.in_ok-push.ensures.items
    c.zone_in-zone.ensures c.in_ok-place_bounds.ensures
