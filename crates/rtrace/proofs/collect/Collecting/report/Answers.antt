use Rattle.rtrace.proofs.Results.{if_ok}
use Rattle.rtrace.proofs.Whole.{finished_is}
use Rattle.rtrace.proofs.collect.Collecting.report.Goals as goal

pub returns-clause-report : goal.returns-clause-report
returns-clause-report c = if_ok c.finished.result _ _ c.finished.ensures.report (λ r is whole s h. finished_is whole c.args.self.now c.keep.new.self s h c.in-Ok.ensures.ok.0 c.in-Ok.ensures.ok.1 r is)
