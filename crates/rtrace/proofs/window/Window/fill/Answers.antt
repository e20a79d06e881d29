use Rattle.rtrace.proofs.Gaining.{filling_broken}
use Rattle.rtrace.proofs.window.Window.fill.Goals as goal

pub returns-in-Err-clause-broken : goal.returns-in-Err-clause-broken
returns-in-Err-clause-broken g c =
    filling_broken (g.S.Source.left c.args.source.now) (g.S.Source.left c.loop-self.source) (g.S.Source.left c.read.new.source) c.args.self.now c.loop-self.self c.in-Err.e c.loop-self.invariant.0 c.in-Err.ensures.broken
