use Rattle.std.proofs.Common.{◌≡◌, ap, length, ◌∙◌}
use Rattle.rmodel.specs.State.{opening}
use Rattle.rtrace_form.specs.Heads.{read_groups}
use Rattle.rtrace_write.specs.Report.{ReportFields, told_by}
use Rattle.rtrace_write.proofs.Stepping.{groups_are}
use Rattle.rtrace_write.proofs.history.push_followed.Goals as goal

pub push_entries-requires-clause-behind : goal.push_entries-requires-clause-behind
push_entries-requires-clause-behind c =
    let r : ReportFields = c.args.report.now in
    let view = c.report.view_is in
    let groups : c.in_ok-groups.groups ≡ read_groups (told_by r).head = c.in_ok-groups.ensures ∙ ap (λ (s : ReportFields). s.groups) view ∙ groups_are r c.requires.over in
    let tasks : c.len.result ≡ length r.tasks = c.len.ensures.value ∙ ap (λ (s : ReportFields). length s.tasks) view in
    let cap : c.report.inside.cap ≡ r.cap = ap (λ (s : ReportFields). s.cap) view in
    record {
      state = c.in_ok-machine.ensures.opening ∙ (λ i. opening (groups i) (tasks i) (cap i));
      follows = c.requires.followed;
    }

pub push_entries-requires-clause-untold : goal.push_entries-requires-clause-untold
push_entries-requires-clause-untold c = c.requires.untold

pub push_entries-requires-clause-lawful : goal.push_entries-requires-clause-lawful
push_entries-requires-clause-lawful c = c.requires.may.lawful

pub returns-clause-text : goal.returns-clause-text
returns-clause-text c = c.push_entries.ensures.text

pub returns-clause-gathered : goal.returns-clause-gathered
returns-clause-gathered c = c.push_entries.ensures.gathered
