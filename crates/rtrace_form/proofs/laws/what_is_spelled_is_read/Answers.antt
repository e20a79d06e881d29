use Rattle.rtrace_form.proofs.lines.LineBack.{meaning_back}
use Rattle.rtrace_form.proofs.laws.what_is_spelled_is_read.Goals as goal

pub returns : goal.returns
returns c = meaning_back
