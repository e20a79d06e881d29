use Rattle.std.proofs.Common.{sym, ◌∙◌, arith}
use Rattle.rtrace_form.specs.Reports.{status_line}
use Rattle.rtrace_read.proofs.Codes.{change_behind_end, change_wrong, status_changes}
use Rattle.rtrace_read.proofs.Steps.{change_taken}
use Rattle.rtrace_read.proofs.reading.ReportReader.status.Goals as goal

pub returns-then-self-eq-AT_END-clause-bad : goal.returns-then-self-eq-AT_END-clause-bad
returns-then-self-eq-AT_END-clause-bad c = λ whole s h. change_behind_end whole s (status_line c.args.change) (status_changes c.args.change) (sym h.last ∙ c.if-self-eq-AT_END.true)

pub returns-then-not-is_status_due-clause-bad : goal.returns-then-not-is_status_due-clause-bad
returns-then-not-is_status_due-clause-bad c = λ whole s h.
    let last = h.last in
    let most = h.most in
    change_wrong whole s (status_line c.args.change) (status_changes c.args.change) (omega (arith, last, most)) (sym (c.is_status_due.ensures.due whole s h) ∙ c.if-not-is_status_due.true)

pub returns-clause-taken : goal.returns-clause-taken
returns-clause-taken c = λ whole s h. change_taken whole c.args.self.now s (status_line c.args.change) h (status_changes c.args.change) (sym (c.is_status_due.ensures.due whole s h) ∙ c.if-not-is_status_due.false)
