use Rattle.std.proofs.Common.{take, sym}
use Rattle.rtrace_form.specs.Lines.{spelled, Happens}
use Rattle.rtrace_form.specs.Texts.{line_text}
use Rattle.rclaim.specs.declared.event.Event.TheVariants.{Issue}
use Rattle.rtrace_write.proofs.Puts.{five, six, seven, same}
use Rattle.rtrace_write.proofs.Rows.{read_is, write_is, mixed_is, upgrade_is, nested_is}
use Rattle.rtrace_write.proofs.event.put_issue.Goals as goal

pub returns-in-Read-clause-text : goal.returns-in-Read-clause-text
returns-in-Read-clause-text c =
    same (take c.args.at c.args.page.now) _ _ (line_text (spelled c.args.names.now (Happens (Issue c.args.seat c.args.request.now))))
    (five (take c.args.at c.args.page.now) _ _ _ _ _ _ _ _ _ _ c.put-at.ensures.text c.put_task-at.ensures.text c.put-at-in-Read.ensures.text c.put_set-at.ensures.text c.put_length.ensures.text)
    (rw (c.reads.ensures.value, c.len.ensures.value) (read_is c.args.names.now c.args.seat c.args.request.now (sym c.in-Read.ensures.value)))

pub returns-in-Write-clause-text : goal.returns-in-Write-clause-text
returns-in-Write-clause-text c =
    same (take c.args.at c.args.page.now) _ _ (line_text (spelled c.args.names.now (Happens (Issue c.args.seat c.args.request.now))))
    (five (take c.args.at c.args.page.now) _ _ _ _ _ _ _ _ _ _ c.put-at.ensures.text c.put_task-at.ensures.text c.put-at-in-Write.ensures.text c.put_set-at-in-Write.ensures.text c.put_length-in-Write.ensures.text)
    (rw (c.writes.ensures.value, c.len-in-Write.ensures.value) (write_is c.args.names.now c.args.seat c.args.request.now (sym c.in-Write.ensures.value)))

pub returns-in-Mixed-clause-text : goal.returns-in-Mixed-clause-text
returns-in-Mixed-clause-text c =
    same (take c.args.at c.args.page.now) _ _ (line_text (spelled c.args.names.now (Happens (Issue c.args.seat c.args.request.now))))
    (six (take c.args.at c.args.page.now) _ _ _ _ _ _ _ _ _ _ _ _ c.put-at.ensures.text c.put_task-at.ensures.text c.put-at-in-Mixed.ensures.text c.put_set-at-in-Mixed.ensures.text c.put_set-at-in-Mixed-2.ensures.text c.put_length-in-Mixed.ensures.text)
    (rw (c.reads-in-Mixed.ensures.value, c.writes-in-Mixed.ensures.value, c.len-in-Mixed.ensures.value) (mixed_is c.args.names.now c.args.seat c.args.request.now (sym c.in-Mixed.ensures.value)))

pub returns-in-Upgrade-clause-text : goal.returns-in-Upgrade-clause-text
returns-in-Upgrade-clause-text c =
    same (take c.args.at c.args.page.now) _ _ (line_text (spelled c.args.names.now (Happens (Issue c.args.seat c.args.request.now))))
    (six (take c.args.at c.args.page.now) _ _ _ _ _ _ _ _ _ _ _ _ c.put-at.ensures.text c.put_task-at.ensures.text c.put-at-in-Upgrade.ensures.text c.put_set-at-in-Upgrade.ensures.text c.put_number-at.ensures.text c.put_length-in-Upgrade.ensures.text)
    (rw (c.reads-in-Upgrade.ensures.value, c.from.ensures, c.len-in-Upgrade.ensures.value, c.later.ensures.value) (upgrade_is c.args.names.now c.args.seat c.args.request.now (sym c.in-Upgrade.ensures.value)))

pub returns-in-Nested-clause-text : goal.returns-in-Nested-clause-text
returns-in-Nested-clause-text c =
    same (take c.args.at c.args.page.now) _ _ (line_text (spelled c.args.names.now (Happens (Issue c.args.seat c.args.request.now))))
    (seven (take c.args.at c.args.page.now) _ _ _ _ _ _ _ _ _ _ _ _ _ _ c.put-at.ensures.text c.put_task-at.ensures.text c.put-at-in-Nested.ensures.text c.put_set-at-in-Nested.ensures.text c.put_set-at-in-Nested-2.ensures.text c.put_set-at-in-Nested-3.ensures.text c.put_length-in-Nested.ensures.text)
    (rw (c.reads-in-Nested.ensures.value, c.writes-in-Nested.ensures.value, c.first.ensures, c.len-in-Nested.ensures.value) (nested_is c.args.names.now c.args.seat c.args.request.now (sym c.in-Nested.ensures.value)))
