use Rattle.rshort.proofs.Again.{rows_again}
use Rattle.rshort.proofs.laws.what_is_cut_again_is_cut.Goals as goal

pub returns : goal.returns
returns c = rows_again
