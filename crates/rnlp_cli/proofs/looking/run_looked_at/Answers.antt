use Rattle.std.proofs.Common.{◌≡◌, ◌++◌, List, ℕ, refl, ap, ◌∙◌, subst}
use Rattle.io_ends.specs.Faults.{Rose}
use Rattle.rnlp_cli.specs.Forms.{looks_text}
use Rattle.rnlp_cli.specs.Running.{IsRun}
use Rattle.rnlp_cli.specs.declared.command.RunForm.TheVariants as forms
use Rattle.rnlp_cli.proofs.Runs.{looked_run}
use Rattle.rnlp_cli.proofs.Tellings.{put_aside}
use Rattle.rnlp_cli.proofs.looking.run_looked_at.Goals as goal

pub returns-in-Ok-push_all-clause-run : goal.returns-in-Ok-push_all-clause-run
returns-in-Ok-push_all-clause-run g c = λ watchers.
    let looked = c.in-Ok-run_all_monitored.ensures in
    let lines =
    c.deref-in-Ok-push_all.ensures.value
    ∙ (c.in-Ok-push_all.ensures
    ∙ (ap (λ (xs : List ℕ). xs ++ looks_text c.deref.result.now c.deref-in-Some.result.now) c.in-Ok-with_capacity.ensures.items ∙ (λ i. looks_text (c.deref.ensures.value i) (c.deref-in-Some.ensures.value i)))) in
    subst
    (λ items. IsRun forms.Watch c.args.script.now (g.K.Sink.written c.args.sink.now) (g.K.Sink.written c.hand_out.new.sink) (g.K.Sink.faults c.hand_out.new.sink ≡ g.K.Sink.faults c.args.sink.now) (Rose (g.K.Sink.faults c.args.sink.now) (g.K.Sink.faults c.hand_out.new.sink)) (c.hand_out.new.sink ≡ c.args.sink.now) items c.hand_out.new.receipts.items watchers watchers c.hand_out.result)
    c.reserve.ensures.items
    (c.hand_out.ensures forms.Watch c.args.script.now watchers watchers
    (looked_run c.args.script.now _ _ c.deref-in-Ok-push_all.result.now _ _ watchers c.in-Some.ensures.same c.in-Some.ensures.report looked.first looked.second lines))

pub returns-clause-aside : goal.returns-clause-aside
returns-clause-aside g c = put_aside c.args.script.now _ c.args.aside.now c.whole_or_aside.new.aside (c.in-None.ensures.stopped refl) (c.in-None.ensures.aside refl)
