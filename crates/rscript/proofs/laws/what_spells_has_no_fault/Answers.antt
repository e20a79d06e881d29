use Rattle.rscript.proofs.back.Rows.{spelled_clean}
use Rattle.rscript.proofs.laws.what_spells_has_no_fault.Goals as goal

pub returns : goal.returns
returns c = spelled_clean
