use Rattle.std.proofs.Common.{◌≡◌, refl, sym, arith}
use Rattle.rdrill.proofs.Acting.{not_here, here, nowhere}
use Rattle.rdrill.proofs.drawing.acting.Goals as goal

pub loop-more-init : goal.loop-more-init
loop-more-init g c = refl

pub returns-then-may_act-clause-acts : goal.returns-then-may_act-clause-acts
returns-then-may_act-clause-acts g c = here (g.M.Machine.state c.args.machine.now) c.args.seat c.loop-more.more c.loop-more-test.true c.loop-more.invariant (sym c.if-may_act.ensures)

pub loop-more-preserved : goal.loop-more-preserved
loop-more-preserved g c = not_here (g.M.Machine.state c.args.machine.now) c.args.seat c.loop-more.more c.loop-more-test.true c.loop-more.invariant (sym c.if-may_act.ensures)

pub returns-clause-acts : goal.returns-clause-acts
returns-clause-acts g c =
    let all : c.loop-more.more ≡ 8 = omega (arith, c.loop-more-test.false, c.loop-more.auto.more-end) in
    nowhere (g.M.Machine.state c.args.machine.now) c.args.seat c.loop-more.more all c.loop-more.invariant
