use Rattle.std.proofs.Common.{map}
use Rattle.std.specs.Prelude.{string_bytes}
use Rattle.rnlp_cli.specs.Words.{command_in}
use Rattle.rnlp_edge.proofs.Edges.{unwatched_so, watched_so}
use Rattle.rnlp_edge.proofs.edge.is_unwatched.Goals as goal

pub returns-then-not-on_terminal : goal.returns-then-not-on_terminal
returns-then-not-on_terminal c = unwatched_so c.args.on_terminal c.ask_for_replay.result (command_in (map string_bytes c.args.words.now)) c.if-not-on_terminal.true c.ask_for_replay.ensures

pub returns-else-not-on_terminal : goal.returns-else-not-on_terminal
returns-else-not-on_terminal c = watched_so c.args.on_terminal (command_in (map string_bytes c.args.words.now)) c.if-not-on_terminal.false
