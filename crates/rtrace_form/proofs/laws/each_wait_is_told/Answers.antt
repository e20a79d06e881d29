use Rattle.rtrace_form.proofs.lists.ToldWaits.{each_told}
use Rattle.rtrace_form.proofs.laws.each_wait_is_told.Goals as goal

pub returns : goal.returns
returns c = each_told
