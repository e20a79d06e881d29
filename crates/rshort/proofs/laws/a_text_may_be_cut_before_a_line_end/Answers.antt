use Rattle.rshort.proofs.Closed.{cut_before}
use Rattle.rshort.proofs.laws.a_text_may_be_cut_before_a_line_end.Goals as goal

pub returns : goal.returns
returns c = cut_before
