use Rattle.std.proofs.Common.{sym, subst}
use Rattle.rrun.specs.Reporting.{IsReportOf}
use Rattle.rrun.proofs.Reported.{is_whole}
use Rattle.rrun.proofs.monitored.run_monitored.Goals as goal

pub returns-in-Ok-clause-report : goal.returns-in-Ok-clause-report
returns-in-Ok-clause-report g c =
    subst (IsReportOf c.args.script.now) (sym c.in-Ok.ensures.same.0)
    (is_whole c.args.script.now c.tasks.ensures.script c.in_ok-run.run'.stopped.items c.in_ok-run.run'.report c.in-Ok.ensures.none c.in_ok-run.ensures.report)
