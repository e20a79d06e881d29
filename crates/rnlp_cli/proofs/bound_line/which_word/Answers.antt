use Rattle.std.proofs.Common.{rules}
use Rattle.rnlp_cli.proofs.bound_line.which_word.Goals as goal

pub returns-in-Ask : goal.returns-in-Ask
returns-in-Ask c = search rules
