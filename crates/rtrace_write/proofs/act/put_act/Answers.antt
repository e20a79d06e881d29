use Rattle.std.proofs.Common.{take}
use Rattle.rtrace_form.specs.Lines.{spelled, Does}
use Rattle.rtrace_form.specs.Texts.{line_text}
use Rattle.rtrace_write.proofs.Puts.{four, same}
use Rattle.rtrace_write.proofs.Rows.{shown_is}
use Rattle.rtrace_write.proofs.act.put_act.Goals as goal

pub returns-in-Shown-clause-text : goal.returns-in-Shown-clause-text
returns-in-Shown-clause-text c =
    same (take c.args.at c.args.page.now) _ _ (line_text (spelled c.args.names.now (Does c.args.act.now)))
    (four (take c.args.at c.args.page.now) _ _ _ _ _ _ _ _ c.put-at.ensures.text c.put_resource-at.ensures.text c.put_number-at.ensures.text c.put.ensures.text)
    (rw c.in-Shown.is (shown_is c.args.names.now c.in-Shown.place c.in-Shown.number))

pub returns-in-Edited-clause-text : goal.returns-in-Edited-clause-text
returns-in-Edited-clause-text c = rw c.in-Edited.is c.put_edit.ensures.text
