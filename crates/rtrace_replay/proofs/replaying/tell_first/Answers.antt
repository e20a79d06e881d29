use Rattle.std.proofs.Common.{Option, subst, ◌∙◌}
use Rattle.rtrace_replay.specs.Followed.{IsTold}
use Rattle.rtrace_replay.specs.declared.replaying.Telling.{Telling}
use Rattle.rtrace_replay.proofs.Replays.{first_told}
use Rattle.rtrace_replay.proofs.replaying.tell_first.Goals as goal

pub push-requires-clause-told : goal.push-requires-clause-told
push-requires-clause-told c =
    let r = c.requires.told in
    let reading = c.args.reading.now in
    (r.0, r.1, r.2, first_told c.in_ok-made.made reading r.0 r.1 c.in_ok-made.ensures.gathered (subst (λ (o : Option Telling). IsTold o reading r.0 r.1) c.requires.none r.3))

pub returns-clause-told : goal.returns-clause-told
returns-clause-told c = λ p ws followed told.
    let reading = c.args.reading.now in (
      c.in_ok-push.ensures.names ∙ c.in_ok-made.ensures.names,
      c.in_ok-push.ensures.gathered p ws followed
          (first_told c.in_ok-made.made reading p ws c.in_ok-made.ensures.gathered (subst (λ (o : Option Telling). IsTold o reading p ws) c.requires.none told)),
    )
