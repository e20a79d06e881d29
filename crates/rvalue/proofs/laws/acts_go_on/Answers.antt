use Rattle.rvalue.specs.Acts.{IsAnsweredAfter}
use Rattle.rvalue.proofs.InTurnLemmas.{AllInTurn-longer}
use Rattle.rvalue.proofs.laws.acts_go_on.Goals as goal

pub returns : goal.returns
returns g c = λ values acts act.
    AllInTurn-longer (IsAnsweredAfter g.T.Editable.after g.T.Editable.taken g.T.Editable.number values) acts act
