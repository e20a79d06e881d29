use Rattle.std.proofs.Common.{◌≡◌, ◌∙◌, map, ap, arith}
use Rattle.rmodel.specs.Steps.{after}
use Rattle.rwatch.specs.Seen.{told_all}
use Rattle.rdrill.specs.Draws.{drill_opening}
use Rattle.rdrill.specs.Drill.{drill_events}
use Rattle.rmodel.specs.Watching.{steps_of}
use Rattle.rdrill.proofs.Running.{all_accepted, told_start, told_on}
use Rattle.rdrill.proofs.drawing.drill.Goals as goal

pub loop-init : goal.loop-init
loop-init g c = told_start (g.M.Machine.state c.args.machine.now) (g.A.Audience.all c.args.audience.now) c.requires.opening

pub take_one-requires-after_bounds : goal.take_one-requires-after_bounds
take_one-requires-after_bounds g c κs within = (c.loop.counter, omega (arith, c.loop-test.true, c.requires.few), c.loop.invariant.at)

pub loop-preserved : goal.loop-preserved
loop-preserved g c =
    told_on c.loop.counter (g.M.Machine.state c.loop.machine) (g.M.Machine.state c.take_one.new.machine) c.loop.dice.x c.take_one.new.dice.x c.loop.latest c.take_one.new.latest
    (g.A.Audience.all c.args.audience.now) (g.A.Audience.all c.loop.audience) (g.A.Audience.all c.take_one.new.audience) c.loop.invariant (c.take_one.ensures.at c.loop.counter) (c.take_one.ensures.told c.loop.counter)

pub returns-clause-state : goal.returns-clause-state
returns-clause-state g c =
    let all : c.loop.counter ≡ c.args.count = omega (arith, c.loop-test.false, c.loop.auto.counter-end) in
    c.loop.invariant.at.state ∙ ap (λ n. after drill_opening (drill_events n)) all

pub returns-clause-told : goal.returns-clause-told
returns-clause-told g c =
    let all : c.loop.counter ≡ c.args.count = omega (arith, c.loop-test.false, c.loop.auto.counter-end) in
    c.loop.invariant.told_so ∙ ap (λ n. map (told_all (steps_of drill_opening (drill_events n))) (g.A.Audience.all c.args.audience.now)) all

pub returns-clause-accepted : goal.returns-clause-accepted
returns-clause-accepted g c = all_accepted c.args.count (omega (arith, c.requires.few))
