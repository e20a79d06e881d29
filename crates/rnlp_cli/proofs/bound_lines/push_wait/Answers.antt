use Rattle.std.proofs.Common.{rules}
use Rattle.rnlp_cli.proofs.bound_lines.push_wait.Goals as goal

pub returns : goal.returns
returns c = search rules
