use Rattle.rnlp_cli.proofs.RunReports.{headline}
use Rattle.rnlp_cli.proofs.laws.a_run_keeps_the_headline.Goals as goal

pub returns : goal.returns
returns c = headline
