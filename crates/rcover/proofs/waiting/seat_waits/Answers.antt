use Rattle.std.proofs.Common.{◌==◌, ◌&&◌, ap, ◌∙◌}
use Rattle.std.proofs.lemmas.Bool.{and_parts}
use Rattle.std.specs.List.{list_any}
use Rattle.rmodel.specs.declared.claimed.Claimed.{Claimed}
use Rattle.rcover.specs.Waiting.{waits_by}
use Rattle.rcover.proofs.told.Rising.{waits_alike}
use Rattle.rcover.proofs.told.Waiting.{any_behind, rest_is}
use Rattle.rcover.proofs.waiting.seat_waits.Goals as goal

pub returns : goal.returns
returns c =
    let m = c.args.moment.now in
    let rose = c.has.result in
    let test = λ (x : Claimed). (x.claim.seat == c.args.seat) && waits_by rose x in
    c.some_waits.ensures ∙ ap (list_any test) (rest_is m c.args.first)
    ∙ any_behind test (λ x. x.claim.seat == c.args.seat) (λ x on. (and_parts (x.claim.seat == c.args.seat) (waits_by rose x) on).0) c.args.first m c.requires.none
    ∙ waits_alike c.args.rising m c.args.seat rose c.has.ensures c.requires.rising
