use Rattle.std.proofs.Common.{◌≡◌, Option, Some, None, map, sym, ap, subst, ◌∙◌}
use Rattle.std.specs.Prelude.{option_map, string_bytes}
use Rattle.rnlp_cli.proofs.Promises.{promise_kept}
use Rattle.rnlp_cli.proofs.ToolAnswers.{answered, unread}
use Rattle.rnlp_cli.proofs.Runs.{leaves_left, unread_leaves}
use Rattle.rnlp_cli.proofs.Tellings.{tells_left, unread_tells}
use Rattle.rnlp_cli.specs.Told.{Tells}
use Rattle.rnlp_cli.specs.Watched.{Leaves}
use Rattle.rnlp_cli.specs.Words.{run_in}
use Rattle.rnlp_cli.specs.declared.command.Command.{Command}
use Rattle.rnlp_cli.specs.declared.command.Command.TheVariants.{Run}
use Rattle.rnlp_cli.specs.declared.command.RunForm.{RunForm}
use Rattle.rnlp_cli.proofs.running.told_run.Goals as goal

-- what the words ask for, by the form that was found
asked_is : (found : Option RunForm) (form : RunForm) (asked : Option Command) → option_map Run found ≡ asked → found ≡ Some form → asked ≡ Some (Run form)
asked_is found form asked is there = sym is ∙ ap (option_map Run) there

pub returns-in-Ok-clause-answer : goal.returns-in-Ok-clause-answer
returns-in-Ok-clause-answer g c =
    answered _ _ _ _ (g.A.Audience.all c.args.audience.now) _ (Run c.in-Some.form) _ _ _ _ c.deref.result.now c.run_text.result (asked_is c.form_of.result c.in-Some.form _ c.form_of.ensures c.in-Some.is) (rw c.deref.ensures.value c.in-Ok.ensures.read) c.run_text.ensures.answer

pub returns-in-Ok-clause-leaves : goal.returns-in-Ok-clause-leaves
returns-in-Ok-clause-leaves g c =
    let read = rw (← c.deref.ensures.value) at c.in-Ok.ensures.read in
    subst
    (λ o. Leaves o (g.S.Source.left c.args.source.now) (g.K.Sink.written c.args.sink.now) (g.K.Sink.written c.run_text.new.sink) c.args.receipts.now.items c.run_text.new.receipts.items (g.A.Audience.all c.args.audience.now) (g.A.Audience.all c.run_text.new.audience) c.run_text.result)
    (sym (asked_is c.form_of.result c.in-Some.form _ c.form_of.ensures c.in-Some.is))
    (leaves_left c.in-Some.form (g.S.Source.left c.args.source.now) c.deref.result.now _ _ _ _ _ _ c.run_text.result read.whole c.run_text.ensures.leaves)

pub returns-in-Ok-clause-promise : goal.returns-in-Ok-clause-promise
returns-in-Ok-clause-promise g c = λ form. promise_kept form _ _ _ _ _ _ _ (run_in (map string_bytes c.args.words.now)) c.run_text.result (returns-in-Ok-clause-leaves g c)

pub returns-in-Ok-clause-told : goal.returns-in-Ok-clause-told
returns-in-Ok-clause-told g c = λ watchers.
    let read = rw (← c.deref.ensures.value) at c.in-Ok.ensures.read in
    subst (λ o. Tells watchers o (g.S.Source.left c.args.source.now) c.args.told.now c.run_text.new.told c.run_text.result) (sym (asked_is c.form_of.result c.in-Some.form _ c.form_of.ensures c.in-Some.is))
    (tells_left (Run c.in-Some.form) (g.S.Source.left c.args.source.now) c.deref.result.now c.args.told.now c.args.told.now c.run_text.new.told c.run_text.result read.whole (c.run_text.ensures.told watchers))

pub returns-in-Err-clause-answer : goal.returns-in-Err-clause-answer
returns-in-Err-clause-answer g c =
    unread _ _ _ _ (g.A.Audience.all c.args.audience.now) _ (Run c.in-Some.form) _ _ _ c.in-Err.status (asked_is c.form_of.result c.in-Some.form _ c.form_of.ensures c.in-Some.is) c.in-Err.ensures.not_read

pub returns-in-Err-clause-leaves : goal.returns-in-Err-clause-leaves
returns-in-Err-clause-leaves g c =
    subst
    (λ o. Leaves o (g.S.Source.left c.args.source.now) (g.K.Sink.written c.args.sink.now) (g.K.Sink.written c.args.sink.now) c.args.receipts.now.items c.args.receipts.now.items (g.A.Audience.all c.args.audience.now) (g.A.Audience.all c.args.audience.now) c.in-Err.status)
    (sym (asked_is c.form_of.result c.in-Some.form _ c.form_of.ensures c.in-Some.is))
    (unread_leaves c.in-Some.form (g.S.Source.left c.args.source.now) _ _ c.args.receipts.now.items (g.A.Audience.all c.args.audience.now) g.S.Source.left g.S.Source.faults (Some (Run c.in-Some.form)) _ _ c.in-Err.status c.in-Err.ensures.not_read)

pub returns-in-Err-clause-promise : goal.returns-in-Err-clause-promise
returns-in-Err-clause-promise g c = λ form. promise_kept form _ _ _ _ _ _ _ (run_in (map string_bytes c.args.words.now)) c.in-Err.status (returns-in-Err-clause-leaves g c)

pub returns-in-Err-clause-told : goal.returns-in-Err-clause-told
returns-in-Err-clause-told g c = λ watchers.
    subst (λ o. Tells watchers o (g.S.Source.left c.args.source.now) c.args.told.now c.args.told.now c.in-Err.status) (sym (asked_is c.form_of.result c.in-Some.form _ c.form_of.ensures c.in-Some.is))
    (unread_tells g.S.Source.left g.S.Source.faults (Some (Run c.in-Some.form)) _ _ c.args.told.now (Some (Run c.in-Some.form)) (g.S.Source.left c.args.source.now) c.args.told.now c.in-Err.status c.in-Err.ensures.not_read)
