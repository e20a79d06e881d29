use Rattle.std.proofs.Common.{arith, ◌∙◌}
use Rattle.std.proofs.lemmas.Option.{IfSome_then}
use Rattle.watched_example.specs.Sections.{IsNew}
use Rattle.watched_example.proofs.Ending.{all_seen}
use Rattle.watched_example.proofs.watched.watched.Goals as goal

pub both-requires-clause-second : goal.both-requires-clause-second
both-requires-clause-second g c κs within = (c.in-Ok.ensures.new 1 c.in_ok-first.second (omega arith) c.in_ok-first.ensures.second).rests

pub closed-requires-clause-second : goal.closed-requires-clause-second
closed-requires-clause-second g c κs within = (
  c.in_ok-first-2.ensures.rest.1,
  c.in_ok-first-2.ensures.made.1.same.1 ∙ (c.in-Ok.ensures.new 1 c.in_ok-first.second (omega arith) c.in_ok-first.ensures.second).number_is,
)

pub returns : goal.returns
returns g c =
    let before = g.A.Audience.all c.args.audience in
    let first_new : IsNew before c.in-Ok.lock 0 c.in_ok-first.first = c.in-Ok.ensures.new 0 c.in_ok-first.first (omega arith) c.in_ok-first.ensures.first in
    let second_new : IsNew before c.in-Ok.lock 1 c.in_ok-first.second = c.in-Ok.ensures.new 1 c.in_ok-first.second (omega arith) c.in_ok-first.ensures.second in
    IfSome_then c.closed.result c.closed.ensures (λ after end.
    all_seen before (g.A.Audience.all after) c.in-Ok.lock c.args.times c.in_ok-first.first c.in_ok-first.second c.in_ok-first-2.first c.in_ok-first-2.second first_new second_new c.in_ok-first-2.ensures.rest.0
    c.in_ok-first-2.ensures.made.0 c.in_ok-first-2.ensures.made.1 c.in-Ok.ensures.passes end)
