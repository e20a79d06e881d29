use Rattle.rmodel.proofs.theorems.HistoryLaws.{held_until_given_back}
use Rattle.rmodel.proofs.laws.held_until_given_back.Goals as goal

pub returns : goal.returns
returns c = held_until_given_back
