use Rattle.std.proofs.Common.{refl, sym, ◌∙◌, arith}
use Rattle.rtrace_form.specs.Lines.{Grants}
use Rattle.rtrace_read.proofs.Codes.{change_behind_end, change_wrong}
use Rattle.rtrace_read.proofs.Steps.{change_taken}
use Rattle.rtrace_read.proofs.reading.ReportReader.grant.Goals as goal

pub returns-then-self-eq-AT_END-clause-bad : goal.returns-then-self-eq-AT_END-clause-bad
returns-then-self-eq-AT_END-clause-bad c = λ whole s h. change_behind_end whole s (Grants c.args.seat c.args.set) refl (sym h.last ∙ c.if-self-eq-AT_END.true)

pub returns-then-not-is_grant_due-clause-bad : goal.returns-then-not-is_grant_due-clause-bad
returns-then-not-is_grant_due-clause-bad c = λ whole s h.
    let last = h.last in
    let most = h.most in
    change_wrong whole s (Grants c.args.seat c.args.set) refl (omega (arith, last, most)) (sym (c.is_grant_due.ensures.due whole s h) ∙ c.if-not-is_grant_due.true)

pub returns-clause-taken : goal.returns-clause-taken
returns-clause-taken c = λ whole s h. change_taken whole c.args.self.now s (Grants c.args.seat c.args.set) h refl (sym (c.is_grant_due.ensures.due whole s h) ∙ c.if-not-is_grant_due.false)
