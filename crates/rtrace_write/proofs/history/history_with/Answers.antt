use Rattle.std.proofs.Common.{◌≡◌, ◌++◌, ℕ, List, [], true, Option, ap, ◌∙◌, arith}
use Rattle.rtrace_form.specs.Heads.{Head}
use Rattle.rtrace_form.specs.Reports.{history_lines}
use Rattle.rtrace_form.specs.Waits.{no_bounds}
use Rattle.rtrace_write.specs.Open.{open_told}
use Rattle.rtrace_write.specs.Report.{ReportFields, told_by}
use Rattle.rtrace_write.proofs.Stepping.{groups_are}
use Rattle.rtrace_write.proofs.Results.{on_some_each}
use Rattle.rtrace_write.proofs.history.history_with.Goals as goal

pub close_history-requires : goal.close_history-requires
close_history-requires c =
    let r : ReportFields = c.args.report.now in
    let head : Head = (told_by r).head in
    let view = c.report.view_is in
    let cap : c.report.inside.cap ≡ r.cap = ap (λ (s : ReportFields). s.cap) view in (
      c.args.names.now,
      head,
      r.entries,
      record {
        told = c.in_ok-push_history.ensures.text ∙ ap (λ (t : List (Option ℕ)). t ++ open_told c.args.names.now (history_lines true no_bounds head [] r.entries)) c.new-text.ensures;
        known = c.in_ok-push_history.ensures.gathered;
      },
      ap (λ (s : ReportFields). s.groups) view ∙ groups_are r c.requires.over,
      cap,
      omega (arith, cap, c.requires.may.cap_low),
    )

pub returns : goal.returns
returns c =
    let r : ReportFields = c.args.report.now in
    let head : Head = (told_by r).head in
    let view = c.report.view_is in
    on_some_each c.close_history.result c.close_history.ensures
    (λ page so.
    so c.args.names.now head r.entries
    (record {
      told = c.in_ok-push_history.ensures.text ∙ ap (λ (t : List (Option ℕ)). t ++ open_told c.args.names.now (history_lines true no_bounds head [] r.entries)) c.new-text.ensures;
      known = c.in_ok-push_history.ensures.gathered;
    })
    (ap (λ (s : ReportFields). s.groups) view ∙ groups_are r c.requires.over) (ap (λ (s : ReportFields). s.cap) view))
