use Rattle.rlooks.specs.declared.lookout.TheConstants.{ROUNDS}
use Rattle.rrun.proofs.Looking.{rounds_and_more}
use Rattle.rrun.proofs.monitored.feed_and_show.Goals as goal

pub show_looks-requires-after_bounds : goal.show_looks-requires-after_bounds
show_looks-requires-after_bounds g c κs within =
    let may = c.requires in
    let fed = c.in_ok-scribe.ensures may.0 may.1.1.1.0 may.1.0 may.1.1.1.1 in
    (may.1.1.1.0, fed.0)

pub returns : goal.returns
returns g c = λ scribe b there feeds.
    let fed = c.in_ok-scribe.ensures scribe b there feeds in
    (c.show_looks.ensures.feeds b fed.0, rounds_and_more ROUNDS c.args.lookout.now c.feed_from.new.lookout c.show_looks.new.lookout fed.1 c.show_looks.ensures.on)
