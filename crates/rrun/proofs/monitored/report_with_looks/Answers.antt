use Rattle.std.proofs.Common.{ℕ, Option, List, map, sym, subst}
use Rattle.std.specs.Arc.{arc_value}
use Rattle.rrun.specs.Monitors.{watch_for}
use Rattle.rrun.specs.Reporting.{IsReportOfRun}
use Rattle.rrun.proofs.Looking.{report_of_closed, looks_of_report}
use Rattle.rrun.proofs.Telling.{may_be_written}
use Rattle.rrun.proofs.monitored.report_with_looks.Goals as goal

pub returns-clause-report : goal.returns-clause-report
returns-clause-report g c =
    subst (λ (stopped : List (Option ℕ)). IsReportOfRun c.args.script.now stopped c.in_ok-run.run'.report) (sym c.in_ok-run.ensures.stopped)
    (report_of_closed c.args.script.now c.tasks.ensures.script c.args.ran.0.0.entries (map arc_value c.args.ran.0.1.items) c.args.ran.1.items c.requires.closed c.in_ok-run.run'.report c.in_ok-run.ensures.head c.in_ok-run.ensures.entries c.in_ok-run.ensures.ledgers)

pub returns-clause-written : goal.returns-clause-written
returns-clause-written g c =
    may_be_written c.args.script.now c.tasks.ensures.script c.args.ran.1.items c.in_ok-run.run'.report
    (report_of_closed c.args.script.now c.tasks.ensures.script c.args.ran.0.0.entries (map arc_value c.args.ran.0.1.items) c.args.ran.1.items c.requires.closed c.in_ok-run.run'.report c.in_ok-run.ensures.head c.in_ok-run.ensures.entries c.in_ok-run.ensures.ledgers)

pub returns-clause-first : goal.returns-clause-first
returns-clause-first g c =
    looks_of_report c.args.script.now c.in_ok-run.run'.report c.args.ran.0.0.entries c.in_ok-looks.looks.0.items c.in_ok-run.ensures.head c.in_ok-run.ensures.entries (c.in_ok-looks.ensures.first (watch_for c.args.script.now) c.requires.began)

pub returns-clause-second : goal.returns-clause-second
returns-clause-second g c =
    looks_of_report c.args.script.now c.in_ok-run.run'.report c.args.ran.0.0.entries c.in_ok-looks.looks.1.items c.in_ok-run.ensures.head c.in_ok-run.ensures.entries (c.in_ok-looks.ensures.second (watch_for c.args.script.now) c.requires.began)
