use Rattle.std.proofs.Common.{◌≡◌, subst}
use Rattle.std.specs.Option.{IfSome}
use Rattle.rcover.specs.Kept.{length_by}
use Rattle.rcover.proofs.seen.show_read_if.Goals as goal

pub returns-in-Some-clause-lengths : goal.returns-in-Some-clause-lengths
returns-in-Some-clause-lengths c = λ len are own have. c.show_read.ensures.lengths len are (subst (λ o. IfSome o (λ v. length_by c.args.lengths.now v ≡ len v)) c.in-Some.is own) have
