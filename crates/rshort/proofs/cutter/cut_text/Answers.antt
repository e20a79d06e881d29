use Rattle.std.proofs.Common.{take, sym, subst}
use Rattle.std.proofs.lemmas.List.{take_all, take_more}
use Rattle.rshort.specs.Cutters.{HasRead}
use Rattle.rshort.proofs.cutter.cut_text.Goals as goal

pub loop-c-preserved : goal.loop-c-preserved
loop-c-preserved c =
    subst (HasRead c.take.new.self) (sym (take_more c.args.bytes.now c.loop-c.c-index 0 c.loop-c-test.true)) (c.in_ok-take.ensures (take c.loop-c.c-index c.args.bytes.now) c.loop-c.invariant c.if-not-branch.false)

pub returns : goal.returns
returns c = c.finish.ensures c.args.bytes.now (subst (HasRead c.loop-c.cutter) (take_all c.loop-c.c-index c.args.bytes.now c.loop-c-test.false) c.loop-c.invariant)
