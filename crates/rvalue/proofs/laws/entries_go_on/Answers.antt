use Rattle.rvalue.specs.Histories.{EntryAnswersRightly}
use Rattle.rvalue.proofs.InTurnLemmas.{AllInTurn-longer}
use Rattle.rvalue.proofs.laws.entries_go_on.Goals as goal

pub returns : goal.returns
returns g c = λ openings entries entry.
    AllInTurn-longer (EntryAnswersRightly g.T.Editable.after g.T.Editable.taken g.T.Editable.number openings) entries entry
