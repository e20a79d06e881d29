use Rattle.std.proofs.Common.{arith}
use Rattle.rshort.proofs.Joints.{differ_first, differ_still, differ_more}
use Rattle.rshort.proofs.joint.count_different.Goals as goal

pub returns-then-joint-eq0-clause-differ : goal.returns-then-joint-eq0-clause-differ
returns-then-joint-eq0-clause-differ c bytes cut knows = differ_first c.args.joint bytes cut c.args.field.now c.if-joint-eq0.true knows

pub returns-then-is_known-clause-differ : goal.returns-then-is_known-clause-differ
returns-then-is_known-clause-differ c bytes cut knows =
    let other = c.if-joint-eq0.false in
    differ_still c.args.joint bytes cut c.args.field.now (omega (arith, other)) knows

pub returns-else-is_known-clause-differ : goal.returns-else-is_known-clause-differ
returns-else-is_known-clause-differ c bytes cut knows =
    let other = c.if-joint-eq0.false in
    differ_more c.args.joint bytes cut c.args.field.now (omega (arith, other)) (c.is_known.ensures.new c.if-is_known.false) knows
