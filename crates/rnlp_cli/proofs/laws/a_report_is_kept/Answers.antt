use Rattle.rnlp_cli.proofs.Keeping.{kept}
use Rattle.rnlp_cli.proofs.laws.a_report_is_kept.Goals as goal

pub returns : goal.returns
returns c = kept
