use Rattle.std.proofs.Common.{◌≡◌, sym, ap, subst, ◌∙◌}
use Rattle.std.specs.Option.{IfSome}
use Rattle.rcover.specs.declared.lines.Head.{Head}
use Rattle.rcover.specs.Kept.{length_by}
use Rattle.rcover.specs.Shown.{needs_head}
use Rattle.rcover.proofs.Kept.{least_has, keeper_has}
use Rattle.rcover.proofs.seen.show.Goals as goal

pub returns-then-c-clause-lengths : goal.returns-then-c-clause-lengths
returns-then-c-clause-lengths c = λ len are own have.
    let by = length_by c.args.lengths.now in
    let least = ap (λ (h : Head). h.claim) (c.requires.least (ap (λ w. needs_head w c.args.x.now) c.in-First.is ∙ c.if-c.true)) in
    c.show_write.ensures.lengths len are (ap by least ∙ least_has by len c.args.x.now.claim own c.args.moment.now are ∙ ap len (sym least)) have

pub returns-else-c-clause-lengths : goal.returns-else-c-clause-lengths
returns-else-c-clause-lengths c = λ len are own have.
    let by = length_by c.args.lengths.now in
    c.show_read_if.ensures.lengths len are (subst (λ o. IfSome o (λ v. by v ≡ len v)) (sym c.keeper_at.ensures) (keeper_has by len c.args.x.now.claim c.args.moment.now are)) have

pub returns-in-Rise-clause-lengths : goal.returns-in-Rise-clause-lengths
returns-in-Rise-clause-lengths c = λ len are own have.
    let by = length_by c.args.lengths.now in
    let least = ap (λ (h : Head). h.claim) (c.requires.least (ap (λ w. needs_head w c.args.x.now) c.in-Rise.is)) in
    c.show_write-in-Rise.ensures.lengths len are (ap by least ∙ least_has by len c.args.x.now.claim own c.args.moment.now are ∙ ap len (sym least)) have

pub returns-in-Ask-clause-lengths : goal.returns-in-Ask-clause-lengths
returns-in-Ask-clause-lengths c = λ len are own have. c.show_found.ensures.lengths len are
