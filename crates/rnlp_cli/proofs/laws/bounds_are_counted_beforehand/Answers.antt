use Rattle.rnlp_cli.proofs.Beforehand.{beforehand}
use Rattle.rnlp_cli.proofs.laws.bounds_are_counted_beforehand.Goals as goal

pub returns : goal.returns
returns c = beforehand
