use Rattle.std.proofs.Common.{sym, ◌∙◌}
use Rattle.rtrace_form.specs.Lines.{Opens}
use Rattle.rtrace_read.proofs.HeadSteps.{head_misplaced, opens_is, opens_taken}
use Rattle.rtrace_read.proofs.reading.ReportReader.open.Goals as goal

pub returns-in-Some-clause-bad : goal.returns-in-Some-clause-bad
returns-in-Some-clause-bad c = λ whole s h. head_misplaced whole s 0 0 Opens c.in-Some.code (opens_is whole s) (sym (c.misplaced.ensures whole s h) ∙ c.in-Some.is)

pub returns-clause-taken : goal.returns-clause-taken
returns-clause-taken c = λ whole s h. opens_taken whole c.args.self.now s h (sym (c.misplaced.ensures whole s h) ∙ c.in_default.is)
