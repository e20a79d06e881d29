use Rattle.std.proofs.Common.{sym, ◌∙◌, arith}
use Rattle.rtrace_read.proofs.LedgerSteps.{end_misplaced, end_wrong, end_taken, list_ends}
use Rattle.rtrace_read.proofs.reading.ReportReader.end.Goals as goal
use Rattle.rtrace_read.proofs.reading.ReportReader.end.Goals.{else-self-via-then-self+else-ledgers_told-len, else-self-via-else-self}

pub returns-in-Some-clause-bad : goal.returns-in-Some-clause-bad
returns-in-Some-clause-bad c = λ whole s h. end_misplaced whole c.args.self.now s h c.in-Some.code (sym (c.misplaced.ensures whole s h) ∙ c.in-Some.is)

pub returns-then-ledgers_told-len-clause-bad : goal.returns-then-ledgers_told-len-clause-bad
returns-then-ledgers_told-len-clause-bad c = λ whole s h.
    let told = c.ledgers_told.ensures in
    end_wrong whole c.args.self.now s h (sym h.kind ∙ c.if-self.true) (sym (c.misplaced.ensures whole s h) ∙ c.in_default.is) (omega (arith, told))

pub returns-clause-taken : goal.returns-clause-taken
returns-clause-taken c = λ whole s h.
    let none = sym (c.misplaced.ensures whole s h) ∙ c.in_default.is in
    elim c.else-self.branch [
      | else-self-via-then-self+else-ledgers_told-len w ↦ let told = w.ledgers_told.ensures in end_taken whole c.args.self.now s h none (omega (arith, told))
      | else-self-via-else-self w ↦ list_ends whole c.args.self.now s h (sym h.kind ∙ w.if-self.false) none
    ]
