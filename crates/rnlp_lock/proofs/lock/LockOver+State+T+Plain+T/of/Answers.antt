use Rattle.std.proofs.Common.{rules, ◌≡◌, ◌∙◌, length, refl, sym, ap, subst, arith}
use Rattle.std.specs.Prelude.{IsTrue}
use Rattle.rset.specs.Sets.{all_below}
use Rattle.rnlp_lock.specs.Causes.{HasAll}
use Rattle.std.proofs.lemmas.List.{length-map}
use Rattle.rexpand.specs.Groups.{ReadGroups}
use Rattle.rmodel.specs.State.{LockState}
use Rattle.rnlp_lock.specs.Laws.{HoldsOf}
use Rattle.rnlp_lock.specs.Seats.{who_of}
use Rattle.rguard.proofs.Closed.{new_seats}
use Rattle.rnlp_lock.proofs.Keeping.{new_passes, new_all}
use Rattle.rnlp_lock.proofs.lock.LockOver+State+T+Plain+T.of.Goals as goal

pub returns-clause-each : goal.returns-clause-each
returns-clause-each g c =
    let over = ap (λ (s : LockState). s.groups) c.in-Ok-new.ensures.opening ∙ c.in-Ok-copy.ensures in
    let counted : length c.args.values.items ≡ (c.in-Ok.groups).q = search rules in
    new_passes g.T.Law.allows (HoldsOf g.T.Law.holds) _ c.in-Ok-new-2.passes.items c.args.seats _ _ c.in-Ok-new-2.ensures.count.1 c.in-Ok-new-2.ensures.each c.in-Ok-new-2.ensures.seats over c.requires.law
    (counted ∙ ap (λ (g : ReadGroups). g.q) (sym over))

pub returns-clause-all : goal.returns-clause-all
returns-clause-all g c =
    new_all _ c.in-Ok-new-2.passes.items c.args.seats _ _ c.in-Ok-new-2.ensures.count.1 (length-map c.in-Ok-new-2.passes.items (who_of _)) c.in-Ok-new-2.ensures.each c.in-Ok-new-2.ensures.count.0

pub returns-clause-opens : goal.returns-clause-opens
returns-clause-opens g c = λ k d less. (new_seats c.in-Ok-new-2.rnlp.gate c.in-Ok-new-2.passes.items c.args.seats _ _ c.args.values.items c.in-Ok-new-2.ensures.count.1 c.in-Ok-new-2.ensures.each refl k d less).1

pub invariant_of-result : goal.invariant_of-result
invariant_of-result g c =
    let all = subst (λ (groups : ReadGroups). IsTrue (all_below groups.q c.all_of-all.result) × HasAll groups.q c.all_of-all.result) (sym c.in-Ok.ensures.made) (c.all_of-all.ensures.below, c.all_of-all.ensures.all) in
    (omega (arith, c.in-Ok-new-2.ensures.count.0, c.if-seats-eq0.false), all.0, all.1)
