use Rattle.rstate.proofs.histories.Staying.{held_stays}
use Rattle.rstate.proofs.laws.l8.Goals as goal

pub returns : goal.returns
returns g c = held_stays g.T.Editable.after g.T.Editable.taken g.T.Editable.number
