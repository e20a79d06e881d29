use Rattle.rtrace_form.proofs.forth.Rows.{spells}
use Rattle.rtrace_form.proofs.laws.no_fault_spells.Goals as goal

pub returns : goal.returns
returns c = spells
