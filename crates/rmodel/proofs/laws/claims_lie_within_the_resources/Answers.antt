use Rattle.rmodel.proofs.theorems.HistoryLaws.{claims_are_below}
use Rattle.rmodel.proofs.laws.claims_lie_within_the_resources.Goals as goal

pub returns : goal.returns
returns c = claims_are_below
