use Rattle.rtrace_form.proofs.texts.OneReport.{one_told}
use Rattle.rtrace_form.proofs.laws.a_text_spells_one_report.Goals as goal

pub returns : goal.returns
returns c = one_told
