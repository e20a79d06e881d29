use Rattle.std.proofs.Common.{Some, Err, refl, ap}
use Rattle.rnlp_cli.proofs.Outcomes.{told, written, surely_written}
use Rattle.rnlp_cli.proofs.Tellings.{written_tells, trace_tells}
use Rattle.rnlp_cli.proofs.Watches.{replay_watched, told_watched}
use Rattle.rnlp_cli.specs.declared.command.Command.TheVariants.{Replay}
use Rattle.rnlp_cli.specs.declared.explained.Told.TheVariants.{Steps}
use Rattle.rnlp_cli.proofs.Lists.{told_list}
use Rattle.rnlp_cli.proofs.replaying.replay_watched.Goals as goal

pub returns-in-Err-Bad-clause-answer : goal.returns-in-Err-Bad-clause-answer
returns-in-Err-Bad-clause-answer g c =
    told (g.A.Audience.all c.args.audience.now) (Some Replay) c.args.bytes.now _ _ _ _ _ _ _ c.refuse.result refl (c.in-Err-Bad.fault, c.in-Err-Bad.ensures.bad c.in-Err-Bad.fault (ap Err c.in-Err-Bad.field-0-is), refl) c.refuse.ensures.written

pub returns-in-Err-Bad-clause-watched : goal.returns-in-Err-Bad-clause-watched
returns-in-Err-Bad-clause-watched g c = told_watched _ _ _ _ _ _ _ (g.A.Audience.all c.args.audience.now) c.refuse.result c.refuse.ensures.written

pub report-requires : goal.report-requires
report-requires g c = (search, c.in-Ok.ensures.made.3.accepted)

pub returns-in-Ok-clause-answer : goal.returns-in-Ok-clause-answer
returns-in-Ok-clause-answer g c =
    let found = c.in-Ok.ensures.made in
    written (g.A.Audience.all c.args.audience.now) (Some Replay) c.args.bytes.now _ _ _ _ _ _ c.report.result (found.0, found.1, found.2) (surely_written _ _ _ _ _ _ _ c.report.result refl c.report.ensures.written)

pub returns-in-Ok-clause-watched : goal.returns-in-Ok-clause-watched
returns-in-Ok-clause-watched g c =
    let found = c.in-Ok.ensures.made in
    replay_watched c.args.bytes.now _ found.0 _ _ _ _ (g.A.Audience.all c.args.audience.now) _ c.report.result found.1 found.2 c.report.ensures.written
    (told_list found.0 c.in-Ok.made.steps (g.A.Audience.all c.args.audience.now) _ found.3.at_head c.report.ensures.told)

pub returns-in-Ok-clause-told : goal.returns-in-Ok-clause-told
returns-in-Ok-clause-told g c = written_tells _ _ _ _ _ _ (Some Steps) (Some Replay) (Some c.args.bytes.now) c.args.told.now (Some Steps) c.report.result refl (λ none. absurd none) c.report.ensures.written

pub returns-in-Err-Bad-clause-told : goal.returns-in-Err-Bad-clause-told
returns-in-Err-Bad-clause-told g c =
    trace_tells _ _ _ _ _ _ (Some Steps) (Some Replay) c.args.bytes.now c.args.told.now c.refuse.new.told c.refuse.result c.refuse.ensures.written
    (λ e. (c.in-Err-Bad.fault, c.in-Err-Bad.ensures.bad c.in-Err-Bad.fault (ap Err c.in-Err-Bad.field-0-is), c.refuse.ensures.noted e)) c.refuse.ensures.kept
