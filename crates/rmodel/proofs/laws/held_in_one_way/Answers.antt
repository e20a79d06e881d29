use Rattle.rmodel.proofs.theorems.HistoryLaws.{held_one_way}
use Rattle.rmodel.proofs.laws.held_in_one_way.Goals as goal

pub returns : goal.returns
returns c = held_one_way
