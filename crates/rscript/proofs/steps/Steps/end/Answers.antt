use Rattle.std.proofs.Common.{◌<◌, arith, length}
use Rattle.rscript.proofs.Cuts.{end_within}
use Rattle.rscript.proofs.steps.Steps.end.Goals as goal

pub returns-then-k-len-clause-within : goal.returns-then-k-len-clause-within
returns-then-k-len-clause-within c =
    let less : c.args.k < length c.self.inside.ends.items = omega (arith, c.if-k-len.true, c.len.ensures) in
    end_within c.self.inside.ends.items c.self.inside.statements.items c.args.self.now c.args.k c.index.result.now c.self.invariant c.self.view_is less c.index.ensures
