use Rattle.rcover.specs.Kept.{AreLong}
use Rattle.rcover.proofs.Pairs.{all_set, all_get}
use Rattle.rcover.proofs.follow.keep_wait.Goals as goal

pub returns-clause-lengths : goal.returns-clause-lengths
returns-clause-lengths c = λ len are own have.
    all_set (AreLong len) c.args.runs.now c.args.x.now.claim.seat c.keep_by.new.run have
    (c.keep_by.ensures.lengths len are own (all_get (AreLong len) c.args.runs.now c.args.x.now.claim.seat c.index-runs-x.result have c.requires.seat))
