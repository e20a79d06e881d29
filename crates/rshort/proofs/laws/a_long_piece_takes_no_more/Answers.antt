use Rattle.rshort.proofs.Texts.{part_off}
use Rattle.rshort.proofs.laws.a_long_piece_takes_no_more.Goals as goal

pub returns : goal.returns
returns c = part_off
