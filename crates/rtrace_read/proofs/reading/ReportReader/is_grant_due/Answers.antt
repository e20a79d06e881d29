use Rattle.std.proofs.Common.{ap, drop, ◌∙◌}
use Rattle.rclaim.specs.Changes.{ChangeLists}
use Rattle.rtrace_form.specs.Lines.{Grants}
use Rattle.rtrace_form.specs.Faults.{is_first}
use Rattle.rtrace_read.specs.Due.{change_list}
use Rattle.rtrace_read.proofs.Steps.{grant_due_is}
use Rattle.rtrace_read.proofs.reading.ReportReader.is_grant_due.Goals as goal

pub returns-in-Some-clause-due : goal.returns-in-Some-clause-due
returns-in-Some-clause-due c = λ whole s h.
    c.is_grant_at.ensures.due
    ∙ ap (λ (x : ChangeLists). is_first (drop c.args.self.now.told (change_list x)) (Grants c.args.seat c.args.set)) c.changes.ensures
    ∙ grant_due_is whole c.args.self.now s h c.in-Some.machine c.in-Some.is c.if-not-self.false c.if-self-ge-AT_LEDGERS.false c.args.seat c.args.set
