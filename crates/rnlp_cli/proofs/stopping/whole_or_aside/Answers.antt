use Rattle.std.proofs.Common.{sym, subst}
use Rattle.rrun.specs.Report.{ReportFields}
use Rattle.rrun.specs.Reporting.{IsReportOf}
use Rattle.rrun.proofs.Reported.{is_whole}
use Rattle.rnlp_cli.proofs.stopping.whole_or_aside.Goals as goal

pub returns-in-Ok-clause-report : goal.returns-in-Ok-clause-report
returns-in-Ok-clause-report c =
    subst (λ (r : ReportFields). IsReportOf c.args.script.now r) (sym c.in-Ok.ensures.same.0)
    (is_whole c.args.script.now c.tasks.ensures.script c.args.run.stopped.items c.args.run.report c.in-Ok.ensures.none c.requires.report)
