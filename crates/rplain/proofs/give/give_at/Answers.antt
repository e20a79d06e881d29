use Rattle.std.proofs.Common.{◌≡◌, ◌&&◌, get_or, sym, ap, ◌∙◌}
use Rattle.std.proofs.Math.ListN.{set}
use Rattle.std.proofs.lemmas.List.{set-get_or, get_or_default}
use Rattle.rmodel.specs.declared.claimed.Claimed.{Claimed}
use Rattle.rmodel.specs.Changes.{with_change}
use Rattle.rmodel.specs.Steps.{gets_asked, with_asked}
use Rattle.rmodel.proofs.settling.Giving.{given_nothing}
use Rattle.rplain.proofs.settling.ChangeSteps.{no_change}
use Rattle.rplain.proofs.give.give_at.Goals as goal

stays : (c : goal.Else-may_get) (d : Claimed) → with_asked c.args.claims.now (get_or c.args.claims.now c.args.i d) ≡ get_or c.args.claims.now c.args.i d
stays c d =
    let xs = c.args.claims.now in
    let y = c.index-claims-i.result in
    let same : y ≡ get_or xs c.args.i d = c.index-claims-i.is ∙ get_or_default xs c.args.i y d c.requires.place in
    ap (with_asked xs) (sym same) ∙ given_nothing xs y (ap (λ b. b && gets_asked xs y) (sym c.may_get.ensures ∙ c.if-may_get.false)) ∙ same

pub returns-else-may_get-clause-claims : goal.returns-else-may_get-clause-claims
returns-else-may_get-clause-claims c = λ d. sym (ap (set c.args.claims.now c.args.i) (stays c d) ∙ set-get_or c.args.claims.now c.args.i d)

pub returns-else-may_get-clause-changes : goal.returns-else-may_get-clause-changes
returns-else-may_get-clause-changes c = λ d.
    let x = get_or c.args.claims.now c.args.i d in
    sym (ap (with_change c.args.changes.now x) (stays c d) ∙ no_change c.args.changes.now x)
