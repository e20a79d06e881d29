use Rattle.rshort.proofs.Cuts.{has_its_code}
use Rattle.rshort.proofs.laws.a_cut_record_has_its_code.Goals as goal

pub returns : goal.returns
returns c = λ whole s row cut tables is. let its = has_its_code whole s row cut tables is in (its.0, its.1)
