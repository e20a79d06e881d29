use Rattle.rlooks.proofs.Going.{goes_further}
use Rattle.rrun.proofs.monitored.show_looks.Goals as goal

pub loop-preserved : goal.loop-preserved
loop-preserved g c =
    (tt, tt, (λ b h. c.in-Ok.ensures.feeds b (c.loop.invariant.2 b h)), goes_further 0 0 c.args.lookout.now c.loop.lookout c.feed_and_look.new.lookout c.loop.invariant.3 c.in-Ok.ensures.on)

pub returns-in-Err-clause-feeds : goal.returns-in-Err-clause-feeds
returns-in-Err-clause-feeds g c = λ b h. c.in-Err.ensures.back b (c.loop.invariant.2 b h)
