use Rattle.std.proofs.Common.{List, ◌∷◌, ◌++◌, sym, ap, subst, ◌∙◌}
use Rattle.std.proofs.lemmas.Result.{on_ok_weaker}
use Rattle.rcover_laws.specs.declared.wait_end.WaitEnd.{WaitEnd}
use Rattle.rtrace_form.specs.Lines.{Happens}
use Rattle.rtrace_read.specs.Past.{with_event}
use Rattle.rtrace_write.specs.Gathered.{KnowsGathered}
use Rattle.rtrace_write.specs.Open.{open_told}
use Rattle.rtrace_write.specs.Told.{step_told}
use Rattle.rtrace_read.specs.Knows.{changes_in}
use Rattle.rtrace_replay.proofs.Replays.{coming_next, followed_by}
use Rattle.rtrace_replay.proofs.replaying.push.Goals as goal

pub tell-requires : goal.tell-requires
tell-requires c =
    let r = c.requires.told in
    let followed = followed_by c.args.reading.now.following c.in-Some-Some.following (with_event r.0 c.args.event.now) c.in-Some-Some.is-1 r.2 in
    (r.0, r.1, r.3, coming_next c.in-Some-Some.following r.0 c.args.event.now c.ended-ended.result.now followed c.ended-ended.ensures.ended)

pub returns-clause-text : goal.returns-clause-text
returns-clause-text c = on_ok_weaker c.tell.result
    (λ known p followed.
    let next = coming_next c.in-Some-Some.following p c.args.event.now c.ended-ended.result.now
    (followed_by c.args.reading.now.following c.in-Some-Some.following (with_event p c.args.event.now) c.in-Some-Some.is-1 followed) c.ended-ended.ensures.ended in
    let changes = c.changes.ensures ∙ ap changes_in (sym c.in-Some-Some.is-0) in
    c.in_ok-push_step.ensures.ok ∙ (λ i. c.args.history.now ++ open_told c.args.telling.now.names (Happens c.args.event.now ∷ step_told (changes i) (next.ended i))))
    c.tell.ensures

pub returns-clause-gathered : goal.returns-clause-gathered
returns-clause-gathered c = on_ok_weaker c.tell.result
    (λ known p ws followed gathered.
    let next = coming_next c.in-Some-Some.following p c.args.event.now c.ended-ended.result.now
    (followed_by c.args.reading.now.following c.in-Some-Some.following (with_event p c.args.event.now) c.in-Some-Some.is-1 followed) c.ended-ended.ensures.ended in
    subst (λ (more : List WaitEnd). KnowsGathered c.tell.new.self (with_event p c.args.event.now) (ws ++ more)) next.ended (known p ws gathered next))
    c.tell.ensures
