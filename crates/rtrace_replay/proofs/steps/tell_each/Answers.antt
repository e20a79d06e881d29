use Rattle.std.proofs.Common.{map, ap, ◌∙◌, arith}
use Rattle.rmodel.specs.Steps.{next}
use Rattle.rwatch.specs.Seen.{told}
use Rattle.rtrace_replay.proofs.Telling.{told_on, told_whole}
use Rattle.rtrace_replay.proofs.steps.tell_each.Goals as goal

pub loop-event-preserved : goal.loop-event-preserved
loop-event-preserved g c =
    told_on c.args.machine.now.state c.args.events.now (g.A.Audience.all c.args.audience.now) c.loop-event.machine.state c.loop-event.event-index (g.A.Audience.all c.loop-event.audience) c.event-item.result
    (omega arith) c.loop-event.invariant c.apply.new.machine.state (g.A.Audience.all c.tell.new.self)
    (c.apply.ensures.state ∙ ap (next c.loop-event.machine.state) c.event-item.is)
    (c.tell.ensures ∙ (λ i. map (told (c.event-item.is i) ((c.changes.ensures ∙ c.apply.ensures.last) i)) (g.A.Audience.all c.loop-event.audience)))

pub returns : goal.returns
returns g c = told_whole c.args.machine.now.state c.args.events.now (g.A.Audience.all c.args.audience.now) c.loop-event.machine.state c.loop-event.event-index (g.A.Audience.all c.loop-event.audience) (omega arith) c.loop-event.invariant
