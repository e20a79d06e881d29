use Rattle.std.proofs.Common.{take}
use Rattle.rtrace_form.specs.Lines.{spelled}
use Rattle.rtrace_form.specs.Reports.{grant_line}
use Rattle.rtrace_form.specs.Texts.{line_text}
use Rattle.rtrace_write.proofs.Puts.{four, same}
use Rattle.rtrace_write.proofs.Rows.{grants_is}
use Rattle.rtrace_write.proofs.change.put_grant.Goals as goal

pub returns-clause-text : goal.returns-clause-text
returns-clause-text c =
    same (take c.args.at c.args.page.now) _ _ (line_text (spelled c.args.names.now (grant_line c.args.change.now)))
    (four (take c.args.at c.args.page.now) _ _ _ _ _ _ _ _ c.put-at.ensures.text c.put_task-at.ensures.text c.put_set-at.ensures.text c.put.ensures.text)
    (rw (← c.union.ensures) (grants_is c.args.names.now c.args.change.now.seat c.union.result))
