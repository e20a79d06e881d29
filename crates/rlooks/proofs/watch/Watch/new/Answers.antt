use Rattle.std.proofs.Common.{[], ap, ◌∙◌}
use Rattle.rmon.specs.Known.{Watching}
use Rattle.rmon.specs.declared.rule.Opening.{Opening}
use Rattle.rlooks.specs.Lookouts.{Looking}
use Rattle.rlooks.proofs.watch.Watch.new.Goals as goal

pub returns : goal.returns
returns g c =
    let o : Opening = record { groups = c.args.groups; seats = c.args.seats; cap = c.args.cap } in
    let fresh : Watching → Looking = λ m. record { monitor = m; looks = [] } in
    let monitors = c.both-one.ensures o c.in_ok-feed.ensures.monitors in
    record {
      feed = c.in_ok-feed.ensures.feed;
      first = c.new-2.ensures ∙ ap fresh monitors.0;
      second = c.new-3.ensures ∙ ap fresh monitors.1;
    }
