use Rattle.std.proofs.Common.{cond, sym, ap, ◌∙◌}
use Rattle.std.proofs.lemmas.Bool.{and_from}
use Rattle.std.specs.FinSet.{union}
use Rattle.rset.specs.Sets.{Set, meets}
use Rattle.rmodel.specs.Rules.{is_earlier_write}
use Rattle.rcover_plain.specs.declared.leasts.Lowest.{Lowest}
use Rattle.rcover_plain.proofs.leasts.with_lowest.Goals as goal

pub returns-then-meets : goal.returns-then-meets
returns-then-meets c =
    let x = c.args.x.now in
    let d = c.args.c.now in
    let low = c.args.low in
    let with_places = λ (s : Set). let l : Lowest = record { least = x.claim; places = s } in l in
    ap with_places c.union.ensures
    ∙ sym (ap (λ b. cond b (with_places (union x.claim.places low.places)) low) (and_from (is_earlier_write d x.claim) (meets x.claim.places low.places) (sym c.is_earlier_write.ensures ∙ c.if-is_earlier_write.true) (sym c.meets.ensures ∙ c.if-meets.true)))
