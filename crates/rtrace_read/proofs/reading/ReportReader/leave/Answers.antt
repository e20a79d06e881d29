use Rattle.std.proofs.Common.{◌≡◌, ◌+◌, None, get_or, sym, ap, subst, ◌∙◌, arith}
use Rattle.rtrace_form.specs.Lines.{Leaves}
use Rattle.rtrace_form.specs.SoFar.{with_line}
use Rattle.rtrace_form.specs.Faults.{line_code, is_same_line}
use Rattle.rtrace_read.specs.Knows.{Knows}
use Rattle.rtrace_read.proofs.LedgerSteps.{leave_misplaced, leave_more, leave_wrong, leave_taken}
use Rattle.rtrace_read.proofs.reading.ReportReader.leave.Goals as goal

pub returns-in-Some-clause-bad : goal.returns-in-Some-clause-bad
returns-in-Some-clause-bad c = λ whole s h. leave_misplaced whole c.args.self.now s h c.args.place c.args.ledger c.in-Some.code (sym (c.misplaced.ensures whole s h) ∙ c.in-Some.is)

pub returns-then-due-len-clause-bad : goal.returns-then-due-len-clause-bad
returns-then-due-len-clause-bad c = λ whole s h.
    let told = c.ledgers_told-due.ensures in
    leave_more whole c.args.self.now s h c.args.place c.args.ledger (sym (c.misplaced.ensures whole s h) ∙ c.in_default.is) (omega (arith, told))

pub returns-then-not-is_left-clause-bad : goal.returns-then-not-is_left-clause-bad
returns-then-not-is_left-clause-bad c = λ whole s h.
    let told = c.ledgers_told-due.ensures in
    leave_wrong whole c.args.self.now s h c.index.result.now c.args.place c.args.ledger (sym h.kind ∙ c.requires) (sym (c.misplaced.ensures whole s h) ∙ c.in_default.is) (omega (arith, told))
    (c.index.ensures ∙ ap (λ n. get_or c.args.self.now.ledgers.items n c.index.result.now) told)
    (ap (λ n. is_same_line (Leaves n c.index.result.now) (Leaves c.args.place c.args.ledger)) (sym told) ∙ sym c.is_left.ensures ∙ c.if-not-is_left.true)

pub returns-clause-taken : goal.returns-clause-taken
returns-clause-taken c = λ whole s h.
    let told = c.ledgers_told-due.ensures in
    subst (λ n. (line_code whole s (Leaves c.args.place c.args.ledger) ≡ None) × Knows whole (record c.args.self.now { last = 8; told = n + 1 }) (with_line whole s (Leaves c.args.place c.args.ledger))) (sym told)
    (leave_taken whole c.args.self.now s h c.index.result.now c.args.place c.args.ledger (sym h.kind ∙ c.requires) (sym (c.misplaced.ensures whole s h) ∙ c.in_default.is) (omega (arith, told))
    (c.index.ensures ∙ ap (λ n. get_or c.args.self.now.ledgers.items n c.index.result.now) told)
    (ap (λ n. is_same_line (Leaves n c.index.result.now) (Leaves c.args.place c.args.ledger)) (sym told) ∙ sym c.is_left.ensures ∙ c.if-not-is_left.false))
