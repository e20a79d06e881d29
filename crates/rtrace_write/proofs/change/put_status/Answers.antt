use Rattle.std.proofs.Common.{true, false, take, map}
use Rattle.rtrace_form.specs.Lines.{spelled}
use Rattle.rtrace_form.specs.Reports.{status_lines}
use Rattle.rtrace_form.specs.Texts.{text_of}
use Rattle.rtrace_write.proofs.Puts.{two, same}
use Rattle.rtrace_write.proofs.Rows.{entitled_told, satisfied_told}
use Rattle.rtrace_write.proofs.change.put_status.Goals as goal

pub returns-then-change-clause-text : goal.returns-then-change-clause-text
returns-then-change-clause-text c =
    same (take c.args.at c.args.page.now) _ _ (text_of (map (spelled c.args.names.now) (status_lines c.args.change.now.seat c.args.change.now.write_half c.args.change.now.status)))
    (two (take c.args.at c.args.page.now) _ _ _ _ c.put_now-at.ensures.text c.put.ensures.text)
    (rw (c.in-Entitled.is, c.if-change.true) (entitled_told c.args.names.now c.args.change.now.seat true))

pub returns-else-change-clause-text : goal.returns-else-change-clause-text
returns-else-change-clause-text c =
    same (take c.args.at c.args.page.now) _ _ (text_of (map (spelled c.args.names.now) (status_lines c.args.change.now.seat c.args.change.now.write_half c.args.change.now.status)))
    (two (take c.args.at c.args.page.now) _ _ _ _ c.put_now-at.ensures.text c.put-else-change.ensures.text)
    (rw (c.in-Entitled.is, c.if-change.false) (entitled_told c.args.names.now c.args.change.now.seat false))

pub returns-then-change-2-clause-text : goal.returns-then-change-2-clause-text
returns-then-change-2-clause-text c =
    same (take c.args.at c.args.page.now) _ _ (text_of (map (spelled c.args.names.now) (status_lines c.args.change.now.seat c.args.change.now.write_half c.args.change.now.status)))
    (two (take c.args.at c.args.page.now) _ _ _ _ c.put_now-at-in-Satisfied.ensures.text c.put-then-change-2.ensures.text)
    (rw (c.in-Satisfied.is, c.if-change-2.true) (satisfied_told c.args.names.now c.args.change.now.seat true))

pub returns-else-change-2-clause-text : goal.returns-else-change-2-clause-text
returns-else-change-2-clause-text c =
    same (take c.args.at c.args.page.now) _ _ (text_of (map (spelled c.args.names.now) (status_lines c.args.change.now.seat c.args.change.now.write_half c.args.change.now.status)))
    (two (take c.args.at c.args.page.now) _ _ _ _ c.put_now-at-in-Satisfied.ensures.text c.put-else-change-2.ensures.text)
    (rw (c.in-Satisfied.is, c.if-change-2.false) (satisfied_told c.args.names.now c.args.change.now.seat false))
