use Rattle.rvalue.proofs.ValueLemmas.{value_of-longer}
use Rattle.rvalue.proofs.laws.values_go_on.Goals as goal

pub returns : goal.returns
returns g c = λ opening entries entry l. value_of-longer g.T.Editable.after opening entries entry l
