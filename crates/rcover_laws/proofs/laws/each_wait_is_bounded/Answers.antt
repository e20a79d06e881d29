use Rattle.rcover_laws.proofs.told.EachWait.{each_wait_is_bounded}
use Rattle.rcover_laws.proofs.laws.each_wait_is_bounded.Goals as goal

pub returns : goal.returns
returns c = each_wait_is_bounded
