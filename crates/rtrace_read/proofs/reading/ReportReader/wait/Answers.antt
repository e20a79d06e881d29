use Rattle.std.proofs.Common.{is_some, refl, sym, ap, ◌∙◌, arith}
use Rattle.rtrace_form.specs.WaitRecords.{line_told}
use Rattle.rtrace_read.proofs.Codes.{change_behind_end, change_wrong}
use Rattle.rtrace_read.proofs.Steps.{change_taken}
use Rattle.rtrace_read.proofs.reading.ReportReader.wait.Goals as goal

pub returns-then-self-eq-AT_END-clause-bad : goal.returns-then-self-eq-AT_END-clause-bad
returns-then-self-eq-AT_END-clause-bad c = λ whole s h. change_behind_end whole s (line_told c.args.wait.now) refl (sym h.last ∙ c.if-self-eq-AT_END.true)

pub returns-in_default-clause-bad : goal.returns-in_default-clause-bad
returns-in_default-clause-bad c = λ whole s h.
    let last = h.last in
    let most = h.most in
    change_wrong whole s (line_told c.args.wait.now) refl (omega (arith, last, most)) (sym (c.wait_due.ensures.due whole s h) ∙ ap is_some c.in_default.is)

pub returns-clause-taken : goal.returns-clause-taken
returns-clause-taken c = λ whole s h. change_taken whole c.args.self.now s (line_told c.args.wait.now) h refl (sym (c.wait_due.ensures.due whole s h) ∙ ap is_some c.in-Some.is)
