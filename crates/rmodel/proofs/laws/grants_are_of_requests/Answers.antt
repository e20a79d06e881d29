use Rattle.rmodel.proofs.theorems.HistoryLaws.{grants_are_of_requests}
use Rattle.rmodel.proofs.laws.grants_are_of_requests.Goals as goal

pub returns : goal.returns
returns c = grants_are_of_requests
