use Rattle.rtrace_form.proofs.lists.ToldWaits.{all_told}
use Rattle.rtrace_form.proofs.laws.all_waits_are_told.Goals as goal

pub returns : goal.returns
returns c = all_told
