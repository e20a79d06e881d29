use Rattle.std.proofs.Common.{not, ap, drop, sym, ◌∙◌}
use Rattle.rclaim.specs.Changes.{ChangeLists}
use Rattle.rtrace_form.specs.Heads.{is_nil}
use Rattle.rtrace_read.specs.Due.{due_list}
use Rattle.rtrace_read.proofs.Steps.{change_due_is}
use Rattle.rtrace_read.proofs.reading.ReportReader.is_change_due.Goals as goal

pub returns-in-Some-Some : goal.returns-in-Some-Some
returns-in-Some-Some c = λ whole s h.
    c.has_more.ensures
    ∙ ap (λ (x : ChangeLists). not (is_nil (drop c.args.self.now.told (due_list x c.ended.result.now)))) c.changes.ensures
    ∙ sym (change_due_is whole c.args.self.now s h c.in-Some-Some.machine c.in-Some-Some.following c.ended.result.now
    c.in-Some-Some.is-0 c.in-Some-Some.is-1 c.if-not-self.false c.if-self-ge-AT_LEDGERS.false c.ended.ensures.ended)
