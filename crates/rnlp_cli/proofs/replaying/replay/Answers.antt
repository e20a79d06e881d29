use Rattle.std.proofs.Common.{◌≡◌, [], Some, length, ap, sym, subst, arith}
use Rattle.rnlp_cli.proofs.Tellings.{steps_behind}
use Rattle.rnlp_cli.specs.Told.{Tells, TellsBehind}
use Rattle.rnlp_cli.specs.declared.command.Command.TheVariants.{Replay}
use Rattle.rnlp_cli.specs.Watched.{ReplayWatched}
use Rattle.rnlp_cli.proofs.Lists.{nobody}
use Rattle.rnlp_cli.proofs.replaying.replay.Goals as goal

pub returns-then-count-eq0-clause-answer : goal.returns-then-count-eq0-clause-answer
returns-then-count-eq0-clause-answer g c = c.replay_unwatched.ensures.answer (g.A.Audience.all c.args.audience.now)

pub returns-then-count-eq0-clause-watched : goal.returns-then-count-eq0-clause-watched
returns-then-count-eq0-clause-watched g c =
    let many = c.count.ensures in
    subst (λ ws. ReplayWatched (Some c.args.bytes.now) (g.K.Sink.written c.args.sink.now) (g.K.Sink.written c.replay_unwatched.new.sink) ws ws c.replay_unwatched.result)
    (sym (nobody (g.A.Audience.all c.args.audience.now) (omega (arith, many)))) c.replay_unwatched.ensures.watched

pub returns-then-count-eq0-clause-told : goal.returns-then-count-eq0-clause-told
returns-then-count-eq0-clause-told g c =
    let many = c.count.ensures in
    subst (λ ws. Tells ws (Some Replay) (Some c.args.bytes.now) c.args.told.now c.replay_unwatched.new.told c.replay_unwatched.result) (sym (nobody (g.A.Audience.all c.args.audience.now) (omega (arith, many))))
    c.replay_unwatched.ensures.told

pub returns-else-count-eq0-clause-told : goal.returns-else-count-eq0-clause-told
returns-else-count-eq0-clause-told g c =
    let many = c.count.ensures in
    let some : g.A.Audience.all c.args.audience.now ≡ [] → ⊥ = λ none. (let empty = ap length none in omega (arith, many, empty)) in
    subst (λ behind. TellsBehind behind (Some Replay) (Some c.args.bytes.now) c.args.told.now c.replay_watched.new.told c.replay_watched.result) (sym (steps_behind (g.A.Audience.all c.args.audience.now) c.args.told.now some))
    c.replay_watched.ensures.told
