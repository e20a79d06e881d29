use Rattle.std.proofs.Common.{refl, ◌∙◌}
use Rattle.rtrace.specs.declared.window.Window.{Window}
use Rattle.rtrace.proofs.Gaining.{draining_more, draining_broken}
use Rattle.rtrace.proofs.window.Window.drain.Goals as goal

pub loop-self-preserved : goal.loop-self-preserved
loop-self-preserved g c =
    let at = c.loop-self.invariant in
    let got = c.in-Ok.ensures.gained in
    let t : Window = record { bytes = c.read.new.self.bytes; filled = 0; taken = c.read.new.self.taken; limit = c.read.new.self.limit } in (
      draining_more (g.S.Source.left c.args.source.now) (g.S.Source.left c.loop-self.source) (g.S.Source.left c.read.new.source) c.args.self.now c.loop-self.self c.read.new.self t got.0 at.0 got.1 got.2
          c.in-Ok.ensures.room refl refl refl refl,
      c.in-Ok.ensures.calm ∙ at.1,
    )

pub returns-in-Err-clause-broken : goal.returns-in-Err-clause-broken
returns-in-Err-clause-broken g c =
    draining_broken (g.S.Source.left c.args.source.now) (g.S.Source.left c.loop-self.source) (g.S.Source.left c.read.new.source) c.args.self.now c.loop-self.self c.in-Err.e c.loop-self.invariant.0 c.in-Err.ensures.broken
