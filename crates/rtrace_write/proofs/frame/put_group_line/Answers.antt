use Rattle.std.proofs.Common.{take}
use Rattle.rtrace_form.specs.Lines.{HasGroup}
use Rattle.rtrace_write.specs.Told.{told_line}
use Rattle.rtrace_write.proofs.Puts.{three, same}
use Rattle.rtrace_write.proofs.Rows.{group_is}
use Rattle.rtrace_write.proofs.frame.put_group_line.Goals as goal

pub returns-clause-text : goal.returns-clause-text
returns-clause-text c =
    same (take c.args.at c.args.page.now) _ _ (told_line c.args.names.now (HasGroup c.args.group))
    (three (take c.args.at c.args.page.now) _ _ _ _ _ _ c.put-at.ensures.text c.put_set-at.ensures.text c.put.ensures.text)
    (group_is c.args.names.now c.args.group)
