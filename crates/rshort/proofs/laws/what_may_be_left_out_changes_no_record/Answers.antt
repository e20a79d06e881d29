use Rattle.rshort.proofs.Texts.{text_cut}
use Rattle.rshort.proofs.laws.what_may_be_left_out_changes_no_record.Goals as goal

pub returns : goal.returns
returns c = text_cut
