use Rattle.rlooks.proofs.Going.{goes_further}
use Rattle.rlooks.proofs.rounds.feed_rounds.Goals as goal

pub returns-in-Err-clause-back : goal.returns-in-Err-clause-back
returns-in-Err-clause-back g c = λ b h. c.in-Err.ensures.back b (c.loop.invariant.feeds b h)

pub loop-preserved : goal.loop-preserved
loop-preserved g c = record {
  on = goes_further c.loop.counter 1 c.args.lookout.now c.loop.lookout c.feed_and_keep.new.lookout c.loop.invariant.on c.in-Ok.ensures.on;
  feeds = λ b h. c.in-Ok.ensures.feeds b (c.loop.invariant.feeds b h);
  fed = λ some. c.in-Ok.ensures.fed;
}
