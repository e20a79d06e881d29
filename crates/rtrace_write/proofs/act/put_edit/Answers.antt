use Rattle.std.proofs.Common.{take}
use Rattle.rtrace_form.specs.Lines.{spelled, Does}
use Rattle.rtrace_form.specs.Texts.{line_text}
use Rattle.rvalue.specs.declared.act.Act.TheVariants.{Edited}
use Rattle.rtrace_write.proofs.Puts.{two, same}
use Rattle.rtrace_write.proofs.Rows.{add_is, take_is, put_is}
use Rattle.rtrace_write.proofs.act.put_edit.Goals as goal

pub returns-in-Add-clause-text : goal.returns-in-Add-clause-text
returns-in-Add-clause-text c =
    same (take c.args.at c.args.page.now) _ _ (line_text (spelled c.args.names.now (Does (Edited c.args.place c.args.edit c.args.done))))
    (two (take c.args.at c.args.page.now) _ _ _ _ c.put-at.ensures.text c.put_edited.ensures.text)
    (rw c.in-Add.is (add_is c.args.names.now c.args.place c.in-Add.amount c.args.done))

pub returns-in-Take-clause-text : goal.returns-in-Take-clause-text
returns-in-Take-clause-text c =
    same (take c.args.at c.args.page.now) _ _ (line_text (spelled c.args.names.now (Does (Edited c.args.place c.args.edit c.args.done))))
    (two (take c.args.at c.args.page.now) _ _ _ _ c.put-at-in-Take.ensures.text c.put_edited-in-Take.ensures.text)
    (rw c.in-Take.is (take_is c.args.names.now c.args.place c.in-Take.amount c.args.done))

pub returns-in-Set-clause-text : goal.returns-in-Set-clause-text
returns-in-Set-clause-text c =
    same (take c.args.at c.args.page.now) _ _ (line_text (spelled c.args.names.now (Does (Edited c.args.place c.args.edit c.args.done))))
    (two (take c.args.at c.args.page.now) _ _ _ _ c.put-at-in-Set.ensures.text c.put_edited-in-Set.ensures.text)
    (rw c.in-Set.is (put_is c.args.names.now c.args.place c.in-Set.number c.args.done))
