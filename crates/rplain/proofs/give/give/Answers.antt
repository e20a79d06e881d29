use Rattle.std.proofs.Common.{◌≡◌, ◌+◌, ◌<◌, List, length, get_or, sym, ap, subst, ◌∙◌, arith}
use Rattle.std.proofs.Math.ListN.{set}
use Rattle.rclaim.specs.Changes.{ChangeLists}
use Rattle.rmodel.specs.declared.claimed.Claimed.{Claimed}
use Rattle.rmodel.specs.Changes.{with_change}
use Rattle.rmodel.specs.Steps.{with_asked, given}
use Rattle.rmodel.proofs.settling.Giving.{give_step, as_many_given, some_claim}
use Rattle.rplain.proofs.settling.ToldSteps.{ToldTo, told_begins, in_first, as_at_first, told_on, ends_made, told_statuses, told_grants}
use Rattle.rplain.proofs.give.give.Goals as goal

pub loop-i-init : goal.loop-i-init
loop-i-init c = told_begins c.args.claims.now (given c.args.claims.now) c.clear.new.self c.clear.ensures

pub loop-i-preserved : goal.loop-i-preserved
loop-i-preserved c =
    let xs = c.args.claims.now in
    let ys = c.loop-i.claims in
    let i = c.loop-i.i in
    let told = c.loop-i.changes in
    let so_far = c.loop-i.invariant in
    let in_ys : i < length ys = omega arith in
    let d = some_claim ys i in_ys in
    let many = as_many_given xs in
    let within = in_first xs (given xs) many ys i told d in_ys so_far in
    let made : with_asked ys (get_or ys i d) ≡ get_or (given xs) i d
    = ap (with_asked ys) (as_at_first xs (given xs) many ys i told d in_ys so_far) ∙ give_step xs ys i d within so_far.done so_far.rest in
    let y = with_asked ys (get_or ys i d) in
    let claims : c.give_at.new.claims ≡ set ys i y = c.give_at.ensures.claims d in
    let changes : c.give_at.new.changes ≡ with_change told (get_or ys i d) y = c.give_at.ensures.changes d in
    subst (λ (p : List Claimed × ChangeLists). ToldTo xs (given xs) p.0 (i + 1) p.1) {x = (set ys i y, with_change told (get_or ys i d) y)}
    (λ k. (sym claims k, sym changes k))
    (told_on xs (given xs) many ys i told d in_ys so_far y made)

pub returns-clause-claims : goal.returns-clause-claims
returns-clause-claims c = ends_made c.args.claims.now (given c.args.claims.now) (as_many_given c.args.claims.now) c.loop-i.claims c.loop-i.i c.loop-i.changes (omega arith) c.loop-i.invariant

pub returns-clause-statuses : goal.returns-clause-statuses
returns-clause-statuses c = told_statuses c.args.claims.now (given c.args.claims.now) (as_many_given c.args.claims.now) c.loop-i.claims c.loop-i.i c.loop-i.changes (omega arith) c.loop-i.invariant

pub returns-clause-grants : goal.returns-clause-grants
returns-clause-grants c = told_grants c.args.claims.now (given c.args.claims.now) (as_many_given c.args.claims.now) c.loop-i.claims c.loop-i.i c.loop-i.changes (omega arith) c.loop-i.invariant
