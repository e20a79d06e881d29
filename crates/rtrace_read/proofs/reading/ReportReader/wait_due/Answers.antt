use Rattle.std.proofs.Common.{ap, drop, ◌∙◌}
use Rattle.rbound.specs.Bounds.{numbers_in}
use Rattle.rclaim.specs.Changes.{ChangeLists}
use Rattle.rtrace_form.specs.Faults.{is_first}
use Rattle.rtrace_form.specs.WaitRecords.{line_told, cover_in}
use Rattle.rtrace_read.specs.Due.{due_list}
use Rattle.rtrace_read.proofs.DueWaits.{follower_first}
use Rattle.rtrace_read.proofs.Steps.{wait_due_is}
use Rattle.rtrace_read.proofs.reading.ReportReader.wait_due.Goals as goal

pub returns-in-Some-Some-clause-due : goal.returns-in-Some-Some-clause-due
returns-in-Some-Some-clause-due c = λ whole s h.
    c.wait_at.ensures.due
    ∙ ap (λ (x : ChangeLists). is_first (drop c.args.self.now.told (due_list x c.ended.result.now)) (line_told c.args.wait.now)) c.changes.ensures
    ∙ wait_due_is whole c.args.self.now s h c.in-Some-Some.machine c.in-Some-Some.is-0 c.if-not-self.false c.if-self-ge-AT_LEDGERS.false
    c.in-Some-Some.following c.ended.result.now (line_told c.args.wait.now) c.in-Some-Some.is-1 c.ended.ensures.ended

pub returns-in-Some-Some-clause-first : goal.returns-in-Some-Some-clause-first
returns-in-Some-Some-clause-first c =
    follower_first c.args.self.now c.in-Some-Some.machine c.in-Some-Some.following c.ended.result.now c.changes.result.now c.in-Some-Some.is-0 c.in-Some-Some.is-1 c.if-not-self.false c.if-self-ge-AT_LEDGERS.false
    c.ended.ensures.ended c.changes.ensures c.args.wait.now.seat c.args.wait.now.stage (cover_in c.args.wait.now.cover) (numbers_in c.args.wait.now.bound) c.wait_at.result c.wait_at.ensures.first
