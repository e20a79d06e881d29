use Rattle.rscript.proofs.forth.Rows.{spells}
use Rattle.rscript.proofs.laws.no_fault_spells.Goals as goal

pub returns : goal.returns
returns c = spells
