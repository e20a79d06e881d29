use Rattle.std.proofs.Common.{[]}
use Rattle.rvalue.specs.Histories.{EntryAnswersRightly}
use Rattle.rvalue.specs.Lawful.{IsRightEntry}
use Rattle.rvalue.proofs.InTurnLemmas.{AllInTurn-weaker}
use Rattle.rvalue.proofs.laws.lawful_answers.Goals as goal

pub returns : goal.returns
returns g c = λ openings entries opens lawful.
    AllInTurn-weaker (IsRightEntry g.R.Rules.comes g.R.Rules.next g.R.Rules.reads g.R.Rules.writes g.T.Editable.after g.T.Editable.taken g.T.Editable.number g.R.Rules.first g.R.Rules.opens_at)
    (EntryAnswersRightly g.T.Editable.after g.T.Editable.taken g.T.Editable.number openings) (λ earlier entry right. right.answers openings opens) [] entries lawful
