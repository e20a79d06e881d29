use Rattle.rtrace_form.proofs.back.Rows.{spelled_clean}
use Rattle.rtrace_form.proofs.laws.what_spells_has_no_fault.Goals as goal

pub returns : goal.returns
returns c = spelled_clean
