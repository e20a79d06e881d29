use Rattle.std.proofs.Common.{◌≡◌, [], ap, subst, length, ◌∙◌}
use Rattle.rtrace_form.specs.Heads.{read_groups}
use Rattle.rtrace_write.specs.Past.{begun}
use Rattle.rtrace_write.specs.Gathered.{KnowsGathered}
use Rattle.rtrace_write.specs.Report.{ReportFields, told_by}
use Rattle.rtrace_write.proofs.history.history_of.Goals as goal

pub history_with-requires-clause-untold : goal.history_with-requires-clause-untold
history_with-requires-clause-untold c =
    let r : ReportFields = c.args.report.now in
    let tasks : c.len.result ≡ length r.tasks = c.len.ensures.value ∙ ap (λ (s : ReportFields). length s.tasks) c.report.view_is in
    subst (λ n. KnowsGathered c.in_ok-gathered.gathered (begun (read_groups (told_by r).head) n r.cap) []) tasks (c.in_ok-gathered.ensures (read_groups (told_by r).head) r.cap)

pub returns : goal.returns
returns c = c.history_with.ensures
