use Rattle.std.proofs.Common.{Some, refl}
use Rattle.rnlp_cli.proofs.Outcomes.{written}
use Rattle.rnlp_cli.proofs.Tellings.{written_tells}
use Rattle.rnlp_cli.specs.Outputs.{drill_text}
use Rattle.rnlp_cli.specs.declared.command.Command.TheVariants.{Drill}
use Rattle.rnlp_cli.proofs.tool.run_command.Goals as goal

pub returns-in-Replay-clause-answer : goal.returns-in-Replay-clause-answer
returns-in-Replay-clause-answer g c = rw c.in-Replay.is c.replay.ensures.answer

pub returns-in-Replay-clause-watched : goal.returns-in-Replay-clause-watched
returns-in-Replay-clause-watched g c = rw c.in-Replay.is c.replay.ensures.watched

pub returns-in-Bound-clause-answer : goal.returns-in-Bound-clause-answer
returns-in-Bound-clause-answer g c = rw c.in-Bound.is (c.bound.ensures.answer (g.A.Audience.all c.args.audience.now))

pub returns-in-Bound-clause-watched : goal.returns-in-Bound-clause-watched
returns-in-Bound-clause-watched g c = rw c.in-Bound.is refl

pub returns-in-Drill-clause-answer : goal.returns-in-Drill-clause-answer
returns-in-Drill-clause-answer g c =
    rw c.in-Drill.is (written (g.A.Audience.all c.args.audience.now) (Some (Drill c.in-Drill.count)) c.args.bytes.now (drill_text c.in-Drill.count (g.A.Audience.all c.args.audience.now)) _ _ _ _ _ c.drill_tool.result refl c.drill_tool.ensures.written)

pub returns-in-Drill-clause-watched : goal.returns-in-Drill-clause-watched
returns-in-Drill-clause-watched g c = rw c.in-Drill.is c.drill_tool.ensures.watched

pub returns-in-Replay-clause-told : goal.returns-in-Replay-clause-told
returns-in-Replay-clause-told g c = rw c.in-Replay.is c.replay.ensures.told

pub returns-in-Bound-clause-told : goal.returns-in-Bound-clause-told
returns-in-Bound-clause-told g c = rw c.in-Bound.is (c.bound.ensures.told (g.A.Audience.all c.args.audience.now))

pub returns-in-Drill-clause-told : goal.returns-in-Drill-clause-told
returns-in-Drill-clause-told g c =
    rw c.in-Drill.is (written_tells _ _ _ _ _ _ c.args.told.now (Some (Drill c.in-Drill.count)) (Some c.args.bytes.now) c.args.told.now c.args.told.now c.drill_tool.result refl (λ same. refl) c.drill_tool.ensures.written)
