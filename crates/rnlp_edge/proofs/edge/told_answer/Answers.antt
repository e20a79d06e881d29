use Rattle.std.proofs.Common.{map, refl, sym, subst}
use Rattle.std.specs.Prelude.{string_bytes}
use Rattle.rnlp_cli.specs.Answer.{ToolAnswer}
use Rattle.rnlp_cli.specs.Words.{command_in}
use Rattle.rnlp_cli.specs.Told.{Tells}
use Rattle.rnlp_cli.specs.Watched.{Leaves}
use Rattle.rnlp_cli.proofs.Watches.{plain_leaves}
use Rattle.rnlp_edge.specs.Program.{AnswersBy, TellsBy}
use Rattle.rnlp_edge.proofs.edge.told_answer.Goals as goal

pub returns-in-Some-clause-answer : goal.returns-in-Some-clause-answer
returns-in-Some-clause-answer g c =
    subst (λ o. AnswersBy g.S.Source.left g.S.Source.faults g.K.Sink.written g.K.Sink.faults o (command_in (map string_bytes c.args.words.now)) c.args.source.now c.args.source.now c.args.sink.now c.write_output.new.sink
    c.args.receipts.now.items c.args.receipts.now.items (g.A.Audience.all c.args.audience.now) (g.A.Audience.all c.args.audience.now) c.write_output.result)
    c.in-Some.ensures (refl, refl, refl, c.write_output.ensures)

pub returns-then-are_for_run-clause-answer : goal.returns-then-are_for_run-clause-answer
returns-then-are_for_run-clause-answer g c =
    subst (λ o. AnswersBy g.S.Source.left g.S.Source.faults g.K.Sink.written g.K.Sink.faults o (command_in (map string_bytes c.args.words.now)) c.args.source.now c.told_run.new.source c.args.sink.now c.told_run.new.sink
    c.args.receipts.now.items c.told_run.new.receipts.items (g.A.Audience.all c.args.audience.now) (g.A.Audience.all c.told_run.new.audience) c.told_run.result) c.in_default.ensures
    (subst (λ o. ToolAnswer g.S.Source.left g.S.Source.faults g.K.Sink.written g.K.Sink.faults (g.A.Audience.all c.args.audience.now) o c.args.source.now c.told_run.new.source c.args.sink.now c.told_run.new.sink c.told_run.result
    × Leaves o (g.S.Source.left c.args.source.now) (g.K.Sink.written c.args.sink.now) (g.K.Sink.written c.told_run.new.sink) c.args.receipts.now.items c.told_run.new.receipts.items (g.A.Audience.all c.args.audience.now) (g.A.Audience.all c.told_run.new.audience) c.told_run.result)
    (sym c.if-are_for_run.ensures.asked) (c.told_run.ensures.answer, c.told_run.ensures.leaves))

pub returns-else-are_for_run-clause-answer : goal.returns-else-are_for_run-clause-answer
returns-else-are_for_run-clause-answer g c =
    subst (λ o. AnswersBy g.S.Source.left g.S.Source.faults g.K.Sink.written g.K.Sink.faults o (command_in (map string_bytes c.args.words.now)) c.args.source.now c.told_tool.new.source c.args.sink.now c.told_tool.new.sink
    c.args.receipts.now.items c.args.receipts.now.items (g.A.Audience.all c.args.audience.now) (g.A.Audience.all c.told_tool.new.audience) c.told_tool.result) c.in_default.ensures
    (subst (λ o. ToolAnswer g.S.Source.left g.S.Source.faults g.K.Sink.written g.K.Sink.faults (g.A.Audience.all c.args.audience.now) o c.args.source.now c.told_tool.new.source c.args.sink.now c.told_tool.new.sink c.told_tool.result
    × Leaves o (g.S.Source.left c.args.source.now) (g.K.Sink.written c.args.sink.now) (g.K.Sink.written c.told_tool.new.sink) c.args.receipts.now.items c.args.receipts.now.items (g.A.Audience.all c.args.audience.now) (g.A.Audience.all c.told_tool.new.audience) c.told_tool.result)
    (sym c.if-are_for_run.ensures.asked)
    (c.told_tool.ensures.answer, plain_leaves (map string_bytes c.args.words.now) (g.S.Source.left c.args.source.now) _ _ c.args.receipts.now.items (g.A.Audience.all c.args.audience.now) _ c.told_tool.result c.told_tool.ensures.watched))

pub returns-then-are_for_run-clause-told : goal.returns-then-are_for_run-clause-told
returns-then-are_for_run-clause-told g c =
    subst (λ o. TellsBy o (command_in (map string_bytes c.args.words.now)) (g.A.Audience.all c.args.audience.now) (g.S.Source.left c.args.source.now) c.args.told.now c.told_run.new.told c.told_run.result) c.in_default.ensures
    (subst (λ o. Tells (g.A.Audience.all c.args.audience.now) o (g.S.Source.left c.args.source.now) c.args.told.now c.told_run.new.told c.told_run.result) (sym c.if-are_for_run.ensures.asked)
    (c.told_run.ensures.told (g.A.Audience.all c.args.audience.now)))
