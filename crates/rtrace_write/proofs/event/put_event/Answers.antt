use Rattle.std.proofs.Common.{take}
use Rattle.rtrace_form.specs.Lines.{spelled, Happens}
use Rattle.rtrace_form.specs.Texts.{line_text}
use Rattle.rtrace_write.proofs.Puts.{three, four, same}
use Rattle.rtrace_write.proofs.Rows.{finish_is, rise_is, ask_is}
use Rattle.rtrace_write.proofs.event.put_event.Goals as goal

pub returns-in-Issue-clause-text : goal.returns-in-Issue-clause-text
returns-in-Issue-clause-text c = rw c.in-Issue.is c.put_issue.ensures.text

pub returns-in-Finish-clause-text : goal.returns-in-Finish-clause-text
returns-in-Finish-clause-text c =
    same (take c.args.at c.args.page.now) _ _ (line_text (spelled c.args.names.now (Happens c.args.event.now)))
    (three (take c.args.at c.args.page.now) _ _ _ _ _ _ c.put-at.ensures.text c.put_task-at.ensures.text c.put.ensures.text)
    (rw c.in-Finish.is (finish_is c.args.names.now c.in-Finish.seat))

pub returns-in-Rise-clause-text : goal.returns-in-Rise-clause-text
returns-in-Rise-clause-text c =
    same (take c.args.at c.args.page.now) _ _ (line_text (spelled c.args.names.now (Happens c.args.event.now)))
    (three (take c.args.at c.args.page.now) _ _ _ _ _ _ c.put-at-in-Rise.ensures.text c.put_task-at-in-Rise.ensures.text c.put-in-Rise.ensures.text)
    (rw c.in-Rise.is (rise_is c.args.names.now c.in-Rise.seat))

pub returns-in-Ask-clause-text : goal.returns-in-Ask-clause-text
returns-in-Ask-clause-text c =
    same (take c.args.at c.args.page.now) _ _ (line_text (spelled c.args.names.now (Happens c.args.event.now)))
    (four (take c.args.at c.args.page.now) _ _ _ _ _ _ _ _ c.put-at-in-Ask.ensures.text c.put_task-at-in-Ask.ensures.text c.put_set-at.ensures.text c.put-in-Ask.ensures.text)
    (rw c.in-Ask.is (ask_is c.args.names.now c.in-Ask.seat c.in-Ask.set))
