use Rattle.std.proofs.Common.{◌≡◌, take, Some, sym, ap, ◌∙◌, subst}
use Rattle.rmodel.specs.State.{LockState}
use Rattle.rmodel.specs.Steps.{after, Comes}
use Rattle.rmodel.proofs.reaching.Histories.{after_append}
use Rattle.rmon.specs.Known.{Feeding, HasTaken}
use Rattle.rmon.specs.Opened.{opening_of}
use Rattle.rmon.proofs.Taking.{comes_at, has_taken, on_err, err_then}
use Rattle.rmon.proofs.feed.Feed.pump.Goals as goal

pub take-requires : goal.take-requires
take-requires g c o knows =
    let inv = c.loop-event.invariant in
    let old = c.args.self.now in
    let es = c.args.events.now in
    let i = c.loop-event.event-index in
    let e = c.event-item.result in
    let known : old.opening ≡ Some o = sym (ap (λ (f : Feeding). f.opening) inv) ∙ knows in
    let comes : Comes (after (after (opening_of o) old.fed) (take i es)) e = comes_at (after (opening_of o) old.fed) es i e (c.requires o known) c.loop-event-test.true c.event-item.is in
    subst (λ (s : LockState). Comes s e) (sym (ap (λ (f : Feeding). after (opening_of o) f.fed) inv ∙ after_append (opening_of o) old.fed (take i es))) comes

pub returns-in_err-take-clause-err : goal.returns-in_err-take-clause-err
returns-in_err-take-clause-err g c =
    on_err _ (subst (HasTaken c.args.self.now c.args.events.now) (sym (c.in_err-take.ensures.err ∙ c.loop-event.invariant)) (has_taken c.args.self.now c.args.events.now c.loop-event.event-index))

pub returns-clause-err : goal.returns-clause-err
returns-clause-err g c =
    err_then c.publish_all.result c.publish_all.ensures.err
    (λ same. subst (HasTaken c.args.self.now c.args.events.now) (sym (same ∙ c.loop-event.invariant)) (has_taken c.args.self.now c.args.events.now c.loop-event.event-index))
