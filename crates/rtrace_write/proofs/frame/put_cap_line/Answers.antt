use Rattle.std.proofs.Common.{take}
use Rattle.rtrace_form.specs.Lines.{HasCap}
use Rattle.rtrace_write.specs.Told.{told_line}
use Rattle.rtrace_write.proofs.Puts.{three, same}
use Rattle.rtrace_write.proofs.Rows.{cap_is}
use Rattle.rtrace_write.proofs.frame.put_cap_line.Goals as goal

pub returns-clause-text : goal.returns-clause-text
returns-clause-text c names =
    same (take c.args.at c.args.page.now) _ _ (told_line names (HasCap c.args.cap))
    (three (take c.args.at c.args.page.now) _ _ _ _ _ _ c.put-at.ensures.text c.put_number-at.ensures.text c.put.ensures.text)
    (rw c.from.ensures (cap_is names c.args.cap))
