use Rattle.rlooks.proofs.Going.{stays, goes_further}
use Rattle.rlooks.proofs.rounds.look_rounds.Goals as goal

pub loop-init : goal.loop-init
loop-init g c = stays c.args.lookout.now

pub loop-preserved : goal.loop-preserved
loop-preserved g c = goes_further c.loop.counter 1 c.args.lookout.now c.loop.lookout c.look.new.self c.loop.invariant c.look.ensures
