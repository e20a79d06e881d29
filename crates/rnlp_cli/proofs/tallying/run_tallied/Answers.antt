use Rattle.std.proofs.Common.{◌≡◌, ◌∙◌, refl, ap, sym, subst}
use Rattle.rrun.specs.Report.{ReportFields, told_by}
use Rattle.rnlp_cli.specs.Forms.{told_run}
use Rattle.io_ends.specs.Faults.{Rose}
use Rattle.rnlp_cli.specs.Running.{IsRun}
use Rattle.rnlp_cli.specs.declared.command.RunForm.TheVariants as forms
use Rattle.rnlp_cli.proofs.Runs.{tallied_run, heard_without}
use Rattle.rnlp_cli.proofs.Tellings.{put_aside}
use Rattle.rnlp_cli.proofs.tallying.run_tallied.Goals as goal

pub returns-in-Some-clause-run : goal.returns-in-Some-clause-run
returns-in-Some-clause-run g c =
    subst
    (λ items. IsRun forms.Tally c.args.script.now (g.K.Sink.written c.args.sink.now) (g.K.Sink.written c.hand_out.new.sink) (g.K.Sink.faults c.hand_out.new.sink ≡ g.K.Sink.faults c.args.sink.now) (Rose (g.K.Sink.faults c.args.sink.now) (g.K.Sink.faults c.hand_out.new.sink)) (c.hand_out.new.sink ≡ c.args.sink.now) items c.hand_out.new.receipts.items (g.A.Audience.all c.args.audience.now) (g.A.Audience.all c.run_heard.new.audience) c.hand_out.result)
    c.reserve.ensures.items
    (c.hand_out.ensures forms.Tally c.args.script.now (g.A.Audience.all c.args.audience.now) (g.A.Audience.all c.run_heard.new.audience)
    (tallied_run c.args.script.now c.in-Some.report c.deref.result.now (g.A.Audience.all c.args.audience.now) (g.A.Audience.all c.run_heard.new.audience) c.in-Some.ensures.report (c.deref.ensures.value ∙ c.push_tally.ensures) (c.in-Ok-run_heard.ensures.watched ∙ ap (λ (r : ReportFields). told_run (told_by r) (g.A.Audience.all c.args.audience.now)) (sym c.in-Some.ensures.same))))

pub returns-clause-run : goal.returns-clause-run
returns-clause-run g c =
    (refl, c.reserve.ensures.items, heard_without c.in-Ok-run_heard.run'.report (g.A.Audience.all c.args.audience.now) (g.A.Audience.all c.run_heard.new.audience) c.in-Ok-run_heard.ensures.watched)

pub returns-clause-aside : goal.returns-clause-aside
returns-clause-aside g c = put_aside c.args.script.now c.in-Ok-run_heard.run' c.args.aside.now c.whole_or_aside.new.aside (c.in-None.ensures.stopped refl) (c.in-None.ensures.aside refl)
