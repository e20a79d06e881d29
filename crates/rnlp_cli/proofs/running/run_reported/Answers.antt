use Rattle.std.proofs.Common.{◌≡◌, refl, subst}
use Rattle.io_ends.specs.Faults.{Rose}
use Rattle.rnlp_cli.specs.Running.{IsRun}
use Rattle.rnlp_cli.specs.declared.command.RunForm.TheVariants as forms
use Rattle.rnlp_cli.proofs.Runs.{reported_run}
use Rattle.rnlp_cli.proofs.Tellings.{put_aside}
use Rattle.rnlp_cli.proofs.running.run_reported.Goals as goal

pub returns-in-Some-clause-run : goal.returns-in-Some-clause-run
returns-in-Some-clause-run g c = λ watchers.
    subst (λ items. IsRun forms.Report c.args.script.now (g.K.Sink.written c.args.sink.now) (g.K.Sink.written c.hand_out.new.sink) (g.K.Sink.faults c.hand_out.new.sink ≡ g.K.Sink.faults c.args.sink.now) (Rose (g.K.Sink.faults c.args.sink.now) (g.K.Sink.faults c.hand_out.new.sink)) (c.hand_out.new.sink ≡ c.args.sink.now) items c.hand_out.new.receipts.items watchers watchers c.hand_out.result)
    c.reserve.ensures.items (c.hand_out.ensures forms.Report c.args.script.now watchers watchers (reported_run c.args.script.now c.in-Some.report watchers c.in-Some.ensures.report))

pub returns-in-None-clause-aside : goal.returns-in-None-clause-aside
returns-in-None-clause-aside g c = put_aside c.args.script.now c.in-Ok-run_all.run' c.args.aside.now c.whole_or_aside.new.aside (c.in-None.ensures.stopped refl) (c.in-None.ensures.aside refl)
