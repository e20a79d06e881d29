use Rattle.rlist_text.proofs.Alone.{left_listed}
use Rattle.rlist_text.proofs.laws.what_a_lock_leaves_may_be_listed.Goals as goal

pub returns : goal.returns
returns g c = left_listed _ _ _
