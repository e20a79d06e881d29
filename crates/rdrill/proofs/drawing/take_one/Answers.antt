use Rattle.std.proofs.Common.{◌∙◌, ◌<◌, ◌^◌, map, ap, arith}
use Rattle.rwatch.specs.Seen.{told}
use Rattle.rdrill.specs.Drill.{Drawn}
use Rattle.rdrill.proofs.Running.{at_next, comes_at, drawn_is}
use Rattle.rdrill.proofs.drawing.take_one.Goals as goal

pub apply-requires-after_bounds : goal.apply-requires-after_bounds
apply-requires-after_bounds g c κs within =
    let few : c.requires.0 < 2 ^ 62 = omega (arith, c.requires.1) in
    comes_at c.requires.0 (g.M.Machine.state c.args.machine.now) c.args.dice.now.x c.draw_event-event.new.dice.x c.args.latest.now c.draw_event-event.result few c.requires.2 c.draw_event-event.ensures.drawn

pub returns-clause-at : goal.returns-clause-at
returns-clause-at g c = λ n at.
    at_next n (g.M.Machine.state c.args.machine.now) (g.M.Machine.state c.apply.new.machine) c.args.dice.now.x c.draw_event-event.new.dice.x c.args.latest.now c.remember.new.latest c.draw_event-event.result at
    c.draw_event-event.ensures.drawn c.draw_event-event.ensures.small c.apply.ensures.state c.remember.ensures.seats c.remember.ensures.latest

pub returns-clause-told : goal.returns-clause-told
returns-clause-told g c = λ n at.
    c.tell.ensures
    ∙ (λ i. map (told (((ap (λ (d : Drawn). d.event) (c.draw_event-event.ensures.drawn ∙ drawn_is n (g.M.Machine.state c.args.machine.now) c.args.dice.now.x c.args.latest.now at)) i)) ((c.changes.ensures ∙ c.apply.ensures.last) i)) (g.A.Audience.all c.args.audience.now))
