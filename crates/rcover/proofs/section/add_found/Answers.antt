use Rattle.std.proofs.Common.{◌≡◌, subst}
use Rattle.std.specs.Option.{IfSome}
use Rattle.rcover.proofs.section.add_found.Goals as goal

pub returns-in-Some-clause-lengths : goal.returns-in-Some-clause-lengths
returns-in-Some-clause-lengths c = λ len right have. c.add_section.ensures.lengths len (subst (λ o. IfSome o (λ s. s.len ≡ len s.claim)) c.in-Some.is right) have
