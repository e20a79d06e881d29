use Rattle.std.proofs.Common.{Option, Some, map, sym, ap, ◌∙◌, subst}
use Rattle.std.specs.Prelude.{string_bytes}
use Rattle.rnlp_cli.proofs.ToolAnswers.{answered, unread}
use Rattle.rnlp_cli.proofs.Tellings.{tells_left, unread_tells}
use Rattle.rnlp_cli.proofs.Watches.{unread_watched, watched_left}
use Rattle.rnlp_cli.specs.Answer.{ToolAnswer}
use Rattle.rnlp_cli.specs.Words.{plain_in}
use Rattle.rnlp_cli.specs.Told.{Tells, told_behind}
use Rattle.rnlp_cli.specs.Watched.{Watched}
use Rattle.rnlp_cli.specs.declared.command.Command.{Command}
use Rattle.rnlp_cli.proofs.Streams.{streamed_is}
use Rattle.rnlp_cli.proofs.tool.told_tool.Goals as goal

pub returns-in-Ok-clause-answer : goal.returns-in-Ok-clause-answer
returns-in-Ok-clause-answer g c =
    answered _ _ _ _ (g.A.Audience.all c.args.audience.now) _ c.in-Some.command _ _ _ _ c.deref.result.now c.run_command.result (sym c.plain_of.ensures.asked ∙ c.in-Some.is) (rw c.deref.ensures.value c.in-Ok.ensures.read) c.run_command.ensures.answer

pub returns-in-Ok-clause-watched : goal.returns-in-Ok-clause-watched
returns-in-Ok-clause-watched g c =
    let read = rw (← c.deref.ensures.value) at c.in-Ok.ensures.read in
    subst (λ o. Watched o (g.S.Source.left c.args.source.now) (g.K.Sink.written c.args.sink.now) (g.K.Sink.written c.run_command.new.sink) (g.A.Audience.all c.args.audience.now) (g.A.Audience.all c.run_command.new.audience) c.run_command.result)
    (sym (sym c.plain_of.ensures.asked ∙ c.in-Some.is))
    (watched_left c.in-Some.command (g.S.Source.left c.args.source.now) c.deref.result.now _ _ _ _ c.run_command.result read.whole c.run_command.ensures.watched)

pub returns-in-Err-clause-answer : goal.returns-in-Err-clause-answer
returns-in-Err-clause-answer g c = unread _ _ _ _ (g.A.Audience.all c.args.audience.now) _ c.in-Some.command _ _ _ c.in-Err.status (sym c.plain_of.ensures.asked ∙ c.in-Some.is) c.in-Err.ensures.not_read

pub returns-in-Err-clause-watched : goal.returns-in-Err-clause-watched
returns-in-Err-clause-watched g c = unread_watched g.S.Source.left g.S.Source.faults (Some c.in-Some.command) _ _ _ _ _ _ _ c.in-Err.status c.in-Err.ensures.not_read

pub returns-then-is_streamed-clause-answer : goal.returns-then-is_streamed-clause-answer
returns-then-is_streamed-clause-answer g c =
    let command = streamed_is c.in-Some.command (sym c.is_streamed.ensures ∙ c.if-is_streamed.true) in
    let asked = (sym c.plain_of.ensures.asked ∙ c.in-Some.is) ∙ ap Some command in
    subst (λ (o : Option Command). ToolAnswer g.S.Source.left g.S.Source.faults g.K.Sink.written g.K.Sink.faults (g.A.Audience.all c.args.audience.now) o c.args.source.now c.audit.new.source c.args.sink.now c.audit.new.sink c.audit.result)
    (sym asked) (c.audit.ensures.answer (g.A.Audience.all c.args.audience.now))

pub returns-in-Ok-clause-told : goal.returns-in-Ok-clause-told
returns-in-Ok-clause-told g c =
    let read = rw (← c.deref.ensures.value) at c.in-Ok.ensures.read in
    subst (λ o. Tells (g.A.Audience.all c.args.audience.now) o (g.S.Source.left c.args.source.now) c.args.told.now c.run_command.new.told c.run_command.result)
    (sym (sym c.plain_of.ensures.asked ∙ c.in-Some.is))
    (tells_left c.in-Some.command (g.S.Source.left c.args.source.now) c.deref.result.now _ c.args.told.now c.run_command.new.told c.run_command.result read.whole c.run_command.ensures.told)

pub returns-in-Err-clause-told : goal.returns-in-Err-clause-told
returns-in-Err-clause-told g c = unread_tells g.S.Source.left g.S.Source.faults (Some c.in-Some.command) _ _ (told_behind (plain_in (map string_bytes c.args.words.now)) (g.A.Audience.all c.args.audience.now) c.args.told.now) (plain_in (map string_bytes c.args.words.now)) (g.S.Source.left c.args.source.now) c.args.told.now c.in-Err.status c.in-Err.ensures.not_read

pub returns-then-is_streamed-clause-told : goal.returns-then-is_streamed-clause-told
returns-then-is_streamed-clause-told g c =
    let command = streamed_is c.in-Some.command (sym c.is_streamed.ensures ∙ c.if-is_streamed.true) in
    let asked = (sym c.plain_of.ensures.asked ∙ c.in-Some.is) ∙ ap Some command in
    subst (λ (o : Option Command). Tells (g.A.Audience.all c.args.audience.now) o (g.S.Source.left c.args.source.now) c.args.told.now c.audit.new.told c.audit.result)
    (sym asked) (c.audit.ensures.told (g.A.Audience.all c.args.audience.now))
