use Rattle.std.proofs.Common.{◌≡◌, Result, refl, ap, subst, ◌∙◌}
use Rattle.std.specs.Fn.{FnOnceReturnsAtMut}
use Rattle.rnlp_lock.specs.Seats.{who_of}
use Rattle.rnlp_lock.specs.Asking.{asked}
use Rattle.rnlp_lock.specs.declared.stop.Stop.{Stop}
use Rattle.rnlp_lock.specs.declared.stop.Stop.TheVariants.{NoMemory}
use Rattle.rnlp_lock.proofs.Making.{may_tell, made_write, none_made, to_nothing}
use Rattle.rnlp_lock.proofs.sits.Sits.through_write.Goals as goal

pub conclude-requires : goal.conclude-requires
conclude-requires g c =
    may_tell c.f-outcome.result (λ (r : Result g.row.A.Denot Stop). FnOnceReturnsAtMut g.F.FnOnce c.args.f c.in-Ok.work r c.f-outcome.new.arg2) _ (record { shown = _; shows = refl; left = _; met = c.f-outcome.ensures; leaves = refl })
    (λ answer did. c.requires.allowed c.in-Ok.work answer c.f-outcome.new.arg2 c.in-Ok.ensures.ok did)

pub returns-in-Ok-clause-who : goal.returns-in-Ok-clause-who
returns-in-Ok-clause-who g c =
    let stays = c.requires.stays c.in-Ok.work c.f-outcome.result c.f-outcome.new.arg2 (record { shown = _; shows = refl; left = _; met = c.f-outcome.ensures; leaves = refl }) in
    c.conclude.ensures.who ∙ ap (λ p. who_of p.lock p.pass) stays ∙ (c.in-Ok.ensures.ok).who_is

pub returns-in-Ok-clause-ok : goal.returns-in-Ok-clause-ok
returns-in-Ok-clause-ok g c =
    let did : FnOnceReturnsAtMut g.F.FnOnce c.args.f c.in-Ok.work c.f-outcome.result c.f-outcome.new.arg2 = record { shown = _; shows = refl; left = _; met = c.f-outcome.ensures; leaves = refl } in
    made_write (asked c.args.kind c.args.reads c.args.writes) _ c.f-outcome.result c.conclude.result.1 (g.Self.Sits.seat c.args.self) (g.Self.Sits.writing c.in-Ok.work) (g.Self.Sits.writing c.f-outcome.new.arg2) (g.Self.Sits.seat c.conclude.result.0)
    c.in-Ok.ensures.ok (c.requires.stays c.in-Ok.work c.f-outcome.result c.f-outcome.new.arg2 did)
    (λ answer is. (c.in-Ok.work, c.f-outcome.new.arg2, refl, refl, subst (λ (r : Result g.row.A.Denot Stop). FnOnceReturnsAtMut g.F.FnOnce c.args.f c.in-Ok.work r c.f-outcome.new.arg2) is did))
    c.conclude.ensures.ok

pub returns-in-Ok-clause-err : goal.returns-in-Ok-clause-err
returns-in-Ok-clause-err g c =
    let did : FnOnceReturnsAtMut g.F.FnOnce c.args.f c.in-Ok.work c.f-outcome.result c.f-outcome.new.arg2 = record { shown = _; shows = refl; left = _; met = c.f-outcome.ensures; leaves = refl } in
    to_nothing _ _ (λ stop. stop ≡ NoMemory) _ _ c.f-outcome.result c.conclude.result.1
    (none_made (asked c.args.kind c.args.reads c.args.writes) c.conclude.result.1 (g.Self.Sits.seat c.args.self) (g.Self.Sits.writing c.in-Ok.work) (g.Self.Sits.writing c.f-outcome.new.arg2) (g.Self.Sits.seat c.conclude.result.0)
    c.in-Ok.ensures.ok (c.requires.stays c.in-Ok.work c.f-outcome.result c.f-outcome.new.arg2 did) c.conclude.ensures.err)
    c.conclude.ensures.cause
    (λ stop is. (c.in-Ok.work, c.f-outcome.new.arg2, c.in-Ok.ensures.ok, subst (λ (r : Result g.row.A.Denot Stop). FnOnceReturnsAtMut g.F.FnOnce c.args.f c.in-Ok.work r c.f-outcome.new.arg2) is did))
