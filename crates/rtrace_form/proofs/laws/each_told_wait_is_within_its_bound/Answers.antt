use Rattle.rtrace_form.proofs.written.WithinBounds.{lines_within}
use Rattle.rtrace_form.proofs.laws.each_told_wait_is_within_its_bound.Goals as goal

pub returns : goal.returns
returns c = lines_within
