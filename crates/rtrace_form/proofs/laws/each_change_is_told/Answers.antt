use Rattle.rtrace_form.proofs.written.Told.{each_told}
use Rattle.rtrace_form.proofs.laws.each_change_is_told.Goals as goal

pub returns : goal.returns
returns c = each_told
