-- Where an answer has no watchers.
use Rattle.std.proofs.Common.{◌≡◌, Bool, true, false, not, Option, refl}
use Rattle.rnlp_cli.specs.declared.command.Command.{Command}
use Rattle.rnlp_edge.specs.Program.{is_replay, is_unwatched}

-- a replay has no watchers if no terminal shows it
pub unwatched_so : (on_terminal asks : Bool) (asked : Option Command) → on_terminal ≡ false → asks ≡ is_replay asked → asks ≡ is_unwatched on_terminal asked
unfolding is_unwatched
unwatched_so true asks asked hidden is = cc
unwatched_so false asks asked hidden is = is

-- it may have watchers if a terminal shows it
pub watched_so : (on_terminal : Bool) (asked : Option Command) → on_terminal ≡ true → not on_terminal ≡ is_unwatched on_terminal asked
unfolding is_unwatched
watched_so true asked shown = refl
watched_so false asked shown = cc
