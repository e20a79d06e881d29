use Rattle.std.proofs.Common.{refl}
use Rattle.rguard.proofs.rise.SectionGuard+T+M+Rising+T.begin_rise.Goals as goal

pub invariant_of-result : goal.invariant_of-result
invariant_of-result g c = c.rise-section.ensures.waits

pub returns-clause-kind : goal.returns-clause-kind
returns-clause-kind g c = refl
