use Rattle.rvalue.specs.Lawful.{IsRightEntry}
use Rattle.rvalue.proofs.InTurnLemmas.{AllInTurn-longer}
use Rattle.rvalue.proofs.laws.lawful_goes_on.Goals as goal

pub returns : goal.returns
returns g c = λ entries entry.
    AllInTurn-longer (IsRightEntry g.R.Rules.comes g.R.Rules.next g.R.Rules.reads g.R.Rules.writes g.T.Editable.after g.T.Editable.taken g.T.Editable.number g.R.Rules.first g.R.Rules.opens_at) entries entry
