use Rattle.std.proofs.Common.{false, ap, ◌∙◌}
use Rattle.std.specs.Option.{unwrap_or}
use Rattle.rmodel.specs.declared.claimed.Claimed.{Claimed}
use Rattle.rcover_laws.specs.Ended.{waits_in}
use Rattle.rcover.proofs.Stands.{stands_first}
use Rattle.rcover.proofs.ended.still_stands.Goals as goal

pub returns : goal.returns
returns c =
    c.unwrap_or.ensures ∙ ap (λ o. unwrap_or o false) c.first_waits.ensures
    ∙ stands_first (λ (x : Claimed). waits_in c.args.which c.args.moment.now x) c.args.c.now c.if-not-c.false c.args.moment.now c.requires
