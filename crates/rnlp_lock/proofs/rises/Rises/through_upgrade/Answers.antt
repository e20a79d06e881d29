use Rattle.std.proofs.Common.{rules, ◌≡◌, Option, Some, Result, refl, ap, subst, ◌∙◌}
use Rattle.std.specs.Fn.{FnOnceReturnsAt}
use Rattle.rnlp_lock.specs.Seats.{who_of}
use Rattle.rnlp_lock.specs.Upgrades.{FnOnceReturnsWith, upgrade_of}
use Rattle.rnlp_lock.specs.declared.stop.Stop.{Stop}
use Rattle.rnlp_lock.specs.declared.stop.Stop.TheVariants.{NoMemory}
use Rattle.rnlp_lock.proofs.Making.{may_tell, made_read, to_nothing}
use Rattle.rnlp_lock.proofs.Risen.{made_upgrade, no_upgrade, ends_by}
use Rattle.rnlp_lock.specs.Asking.{MayAsk}
use Rattle.rnlp_lock.specs.Causes.{StopsRead}
use Rattle.rnlp_lock.proofs.rises.Rises.through_upgrade.Goals as goal

pub then-outcome-requires : goal.then-outcome-requires
then-outcome-requires g c =
    let saw : FnOnceReturnsAt g.L.FnOnce c.args.look c.in-Ok.work (Some c.in-Some.seen) =
    subst (λ (r : Option g.row.B.Denot). FnOnceReturnsAt g.L.FnOnce c.args.look c.in-Ok.work r) c.in-Some.is (record { 0 = _; 1 = c.look.ensures; 2 = refl }) in
    let takes = c.requires.takes c.in-Ok.work c.in-Some.seen c.rise-work.result c.in-Ok.ensures.0 saw c.rise-work.ensures in
    search rules

pub conclude_risen-requires : goal.conclude_risen-requires
conclude_risen-requires g c =
    let saw : FnOnceReturnsAt g.L.FnOnce c.args.look c.in-Ok.work (Some c.in-Some.seen) =
    subst (λ (r : Option g.row.B.Denot). FnOnceReturnsAt g.L.FnOnce c.args.look c.in-Ok.work r) c.in-Some.is (record { 0 = _; 1 = c.look.ensures; 2 = refl }) in
    may_tell c.then-outcome.result (λ (r : Result g.row.A.Denot Stop). FnOnceReturnsWith g.F.FnOnce c.args.then c.rise-work.result c.in-Some.seen r c.then-outcome.new.arg2) _
    (record { shown = _; shows = refl; left = _; met = c.then-outcome.ensures; leaves = refl })
    (λ answer did. c.requires.allowed c.in-Ok.work c.in-Some.seen c.rise-work.result answer c.then-outcome.new.arg2 c.in-Ok.ensures.0 saw c.rise-work.ensures did)

pub returns-in-None-clause-ends : goal.returns-in-None-clause-ends
returns-in-None-clause-ends g c =
    let may : MayAsk (g.Self.Rises.seat c.args.self).lock.groups (upgrade_of c.args.set) = c.in-Ok.ensures.1 in (
      may,
      made_read (upgrade_of c.args.set) _ (g.Self.Rises.seat c.args.self) (g.Self.Rises.rising c.in-Ok.work) (g.Self.Rises.seat c.end_upgrade.result) c.in-Ok.ensures.0 c.end_upgrade.ensures
          (c.in-Ok.work, refl, subst (λ (r : Option g.row.B.Denot). FnOnceReturnsAt g.L.FnOnce c.args.look c.in-Ok.work r) c.in-None.is (record { 0 = _; 1 = c.look.ensures; 2 = refl })),
    )

pub returns-in-Some-clause-who : goal.returns-in-Some-clause-who
returns-in-Some-clause-who g c =
    let stays = c.requires.stays c.rise-work.result c.in-Some.seen c.then-outcome.result c.then-outcome.new.arg2 (record { shown = _; shows = refl; left = _; met = c.then-outcome.ensures; leaves = refl }) in
    c.conclude_risen.ensures.who ∙ ap (λ p. who_of p.lock p.pass) stays ∙ c.rise-work.ensures.who_is ∙ (c.in-Ok.ensures.0).who_is

pub returns-in-Some-clause-ends : goal.returns-in-Some-clause-ends
returns-in-Some-clause-ends g c =
    let saw : FnOnceReturnsAt g.L.FnOnce c.args.look c.in-Ok.work (Some c.in-Some.seen) =
    subst (λ (r : Option g.row.B.Denot). FnOnceReturnsAt g.L.FnOnce c.args.look c.in-Ok.work r) c.in-Some.is (record { 0 = _; 1 = c.look.ensures; 2 = refl }) in
    let did : FnOnceReturnsWith g.F.FnOnce c.args.then c.rise-work.result c.in-Some.seen c.then-outcome.result c.then-outcome.new.arg2 =
    record { shown = _; shows = refl; left = _; met = c.then-outcome.ensures; leaves = refl } in
    ends_by g.Self.Rises.rising g.Self.Rises.writing (λ (work : g.row.Self-Rising.Denot) (seen : Option g.row.B.Denot). FnOnceReturnsAt g.L.FnOnce c.args.look work seen)
    (λ (begun : g.row.Self-Writing.Denot) (seen : g.row.B.Denot) (answer : Result g.row.A.Denot Stop) (later : g.row.Self-Writing.Denot). FnOnceReturnsWith g.F.FnOnce c.args.then begun seen answer later)
    (StopsRead (g.Self.Rises.seat c.args.self).lock.groups c.args.set (upgrade_of c.args.set)) (upgrade_of c.args.set) (g.Self.Rises.seat c.args.self) (g.Self.Rises.seat c.conclude_risen.result.0) c.conclude_risen.result.1 c.in-Ok.ensures.1
    (made_upgrade (upgrade_of c.args.set) _ _ c.then-outcome.result c.conclude_risen.result.1 (g.Self.Rises.seat c.args.self) (g.Self.Rises.rising c.in-Ok.work) (g.Self.Rises.writing c.rise-work.result) (g.Self.Rises.writing c.then-outcome.new.arg2)
    (g.Self.Rises.seat c.conclude_risen.result.0) c.in-Ok.ensures.0 c.rise-work.ensures (c.requires.stays c.rise-work.result c.in-Some.seen c.then-outcome.result c.then-outcome.new.arg2 did)
    (λ answer is.
    (c.in-Ok.work, c.in-Some.seen, c.rise-work.result, c.then-outcome.new.arg2, refl, refl, refl, saw, subst (λ (r : Result g.row.A.Denot Stop). FnOnceReturnsWith g.F.FnOnce c.args.then c.rise-work.result c.in-Some.seen r c.then-outcome.new.arg2) is did))
    c.conclude_risen.ensures.ok)
    (to_nothing _ _ (λ stop. stop ≡ NoMemory) _ _ c.then-outcome.result c.conclude_risen.result.1
    (no_upgrade (upgrade_of c.args.set) c.conclude_risen.result.1 (g.Self.Rises.seat c.args.self) (g.Self.Rises.rising c.in-Ok.work) (g.Self.Rises.writing c.rise-work.result) (g.Self.Rises.writing c.then-outcome.new.arg2)
    (g.Self.Rises.seat c.conclude_risen.result.0) c.in-Ok.ensures.0 c.rise-work.ensures (c.requires.stays c.rise-work.result c.in-Some.seen c.then-outcome.result c.then-outcome.new.arg2 did) c.conclude_risen.ensures.err)
    c.conclude_risen.ensures.cause
    (λ stop is. (c.in-Ok.work, c.in-Some.seen, c.rise-work.result, c.then-outcome.new.arg2, c.in-Ok.ensures.0, saw, subst (λ (r : Result g.row.A.Denot Stop). FnOnceReturnsWith g.F.FnOnce c.args.then c.rise-work.result c.in-Some.seen r c.then-outcome.new.arg2) is did)))
