use Rattle.rmodel.proofs.theorems.HistoryLaws.{none_is_told_to_wait, none_falls_back_a_step}
use Rattle.rmodel.proofs.laws.no_claim_falls_back.Goals as goal

pub returns-clause-told : goal.returns-clause-told
returns-clause-told c = none_is_told_to_wait

pub returns-clause-claims : goal.returns-clause-claims
returns-clause-claims c = none_falls_back_a_step
