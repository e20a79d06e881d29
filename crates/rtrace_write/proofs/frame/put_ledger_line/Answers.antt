use Rattle.std.proofs.Common.{take}
use Rattle.rtrace_form.specs.Lines.{Leaves}
use Rattle.rtrace_write.specs.Told.{told_line}
use Rattle.rtrace_write.proofs.Puts.{five, same}
use Rattle.rtrace_write.proofs.Rows.{leaves_is}
use Rattle.rtrace_write.proofs.frame.put_ledger_line.Goals as goal

pub returns-clause-text : goal.returns-clause-text
returns-clause-text c =
    same (take c.args.at c.args.page.now) _ _ (told_line c.args.names.now (Leaves c.args.place c.args.ledger.now))
    (five (take c.args.at c.args.page.now) _ _ _ _ _ _ _ _ _ _ c.put-at.ensures.text c.put_resource-at.ensures.text c.put_number-at.ensures.text c.put_number-at-2.ensures.text c.put.ensures.text)
    (leaves_is c.args.names.now c.args.place c.args.ledger.now)
