use Rattle.std.proofs.Common.{ℕ, Option, List, map, sym, subst}
use Rattle.std.specs.Arc.{arc_value}
use Rattle.rrun.specs.Reporting.{IsReportOfRun}
use Rattle.rrun.proofs.Reported.{all_of, all_idle, all_there, is_report, told_steps}
use Rattle.rrun.proofs.Telling.{may_be_written}
use Rattle.rrun.proofs.run.run_over.Goals as goal

pub close_whole-closed-requires-clause-of : goal.close_whole-closed-requires-clause-of
close_whole-closed-requires-clause-of g c κs within =
    all_of c.args.script.now c.tasks.ensures.script (g.M.Machine.watched c.args.machine) c.in_ok-rnlp.rnlp c.in_ok-rnlp.seats.items c.in_ok-rnlp.ensures.opened c.in-Ok.seats.items c.in-Ok.ensures.seats

pub close_whole-closed-requires-clause-idle : goal.close_whole-closed-requires-clause-idle
close_whole-closed-requires-clause-idle g c κs within =
    all_idle c.args.script.now c.tasks.ensures.script (g.M.Machine.watched c.args.machine) c.in_ok-rnlp.rnlp c.in_ok-rnlp.seats.items c.in_ok-rnlp.ensures.opened c.in-Ok.seats.items c.in-Ok.ensures.seats

pub close_whole-closed-requires-clause-all : goal.close_whole-closed-requires-clause-all
close_whole-closed-requires-clause-all g c κs within =
    all_there c.args.script.now c.tasks.ensures.script (g.M.Machine.watched c.args.machine) c.in_ok-rnlp.rnlp c.in_ok-rnlp.seats.items c.in_ok-rnlp.ensures.opened c.in-Ok.seats.items c.in-Ok.ensures.seats c.in_ok-rnlp.rnlp.passes c.in_ok-rnlp.ensures.count

pub returns-in_ok-run-in-Ok-clause-report : goal.returns-in_ok-run-in-Ok-clause-report
returns-in_ok-run-in-Ok-clause-report g c =
    subst (λ (os : List (Option ℕ)). IsReportOfRun c.args.script.now os c.in_ok-run-in-Ok.run'.report) (sym c.in_ok-run-in-Ok.ensures.stopped)
    (is_report c.args.script.now c.tasks.ensures.script (g.M.Machine.watched c.args.machine) c.in_ok-rnlp.rnlp c.in_ok-rnlp.seats.items c.in_ok-rnlp.ensures.opened c.in-Ok.seats.items c.in-Ok.ensures.seats c.in-Ok.stopped.items c.in-Ok.ensures.count c.in-Ok.ensures.ended
    c.close_whole-closed.result.0.0.entries (map arc_value c.close_whole-closed.result.0.1.items) c.close_whole-closed.ensures.seats c.in_ok-run-in-Ok.run'.report c.in_ok-run-in-Ok.ensures.head c.in_ok-run-in-Ok.ensures.entries c.in_ok-run-in-Ok.ensures.ledgers)

pub returns-in_ok-run-in-Ok-clause-written : goal.returns-in_ok-run-in-Ok-clause-written
returns-in_ok-run-in-Ok-clause-written g c =
    may_be_written c.args.script.now c.tasks.ensures.script c.in_ok-run-in-Ok.run'.stopped.items c.in_ok-run-in-Ok.run'.report (returns-in_ok-run-in-Ok-clause-report g c)

pub returns-in_ok-run-in-Ok-clause-watched : goal.returns-in_ok-run-in-Ok-clause-watched
returns-in_ok-run-in-Ok-clause-watched g c =
    told_steps c.args.script.now c.tasks.ensures.script (g.M.Machine.watched c.args.machine) c.in_ok-rnlp.rnlp c.in_ok-rnlp.seats.items c.in_ok-rnlp.ensures.opened c.in-Ok.seats.items c.in-Ok.ensures.seats c.in-Ok.stopped.items c.in-Ok.ensures.count c.in-Ok.ensures.ended
    c.close_whole-closed.result.0.0.entries (map arc_value c.close_whole-closed.result.0.1.items) c.close_whole-closed.ensures.seats (g.M.Machine.watched c.close_whole-closed.result.1) c.close_whole-closed.ensures.told c.in_ok-run-in-Ok.run'.report c.in_ok-run-in-Ok.ensures.head
    c.in_ok-run-in-Ok.ensures.entries
