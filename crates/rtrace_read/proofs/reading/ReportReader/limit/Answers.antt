use Rattle.std.proofs.Common.{sym, ◌∙◌}
use Rattle.rtrace_form.specs.Lines.{HasCap}
use Rattle.rtrace_read.proofs.HeadSteps.{head_misplaced, cap_is, cap_taken}
use Rattle.rtrace_read.proofs.reading.ReportReader.limit.Goals as goal

pub returns-in-Some-clause-bad : goal.returns-in-Some-clause-bad
returns-in-Some-clause-bad c = λ whole s h. head_misplaced whole s 4 4 (HasCap c.args.cap) c.in-Some.code (cap_is whole s c.args.cap) (sym (c.misplaced.ensures whole s h) ∙ c.in-Some.is)

pub returns-clause-taken : goal.returns-clause-taken
returns-clause-taken c = λ whole s h. cap_taken whole c.args.self.now s h c.args.cap (sym (c.misplaced.ensures whole s h) ∙ c.in_default.is) c.requires
