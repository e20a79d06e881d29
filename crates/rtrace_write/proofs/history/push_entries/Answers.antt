use Rattle.std.proofs.Common.{◌≡◌, ◌+◌, List, [], sym, ap, subst, ◌∙◌, take, arith}
use Rattle.rcover_laws.specs.declared.wait_end.WaitEnd.{WaitEnd}
use Rattle.rtrace_form.specs.Heads.{Head}
use Rattle.rtrace_form.specs.Reports.{Entry, IsLawful}
use Rattle.rtrace_form.specs.Waits.{all_ended}
use Rattle.rtrace_write.specs.Past.{Past, with_event}
use Rattle.rtrace_write.specs.Behind.{past_in}
use Rattle.rtrace_write.specs.Gathered.{KnowsGathered}
use Rattle.rtrace_write.specs.Stepped.{AreBehind}
use Rattle.rtrace_write.specs.Report.{ReportFields, told_by}
use Rattle.rtrace_write.proofs.Stepping.{comes_here, few_events, past_more, ended_more, text_more, nothing_told, nothing_ended}
use Rattle.rtrace_write.proofs.history.push_entries.Goals as goal

pub loop-entry-init : goal.loop-entry-init
loop-entry-init c =
    let head : Head = (told_by c.args.report.now).head in
    record {
      behind = c.requires.behind;
      gathered = subst (λ (ws : List WaitEnd). KnowsGathered c.args.gathered.now (past_in head []) ws) (sym (nothing_ended head)) c.requires.untold;
      text = nothing_told c.args.names.now head c.args.text.now;
    }

pub push_next-requires : goal.push_next-requires
push_next-requires c =
    let head : Head = (told_by c.args.report.now).head in
    let entries : List Entry = c.entries-entries.result.now in
    let i = c.loop-entry.entry-index in
    let same : entries ≡ c.args.report.now.entries = c.entries-entries.ensures ∙ ap (λ (r : ReportFields). r.entries) c.report.view_is in
    let lawful : IsLawful head entries = subst (λ (some : List Entry). IsLawful head some) (sym same) c.requires.lawful in (
      past_in head (take i entries),
      all_ended head (take i entries),
      c.loop-entry.invariant.behind,
      c.loop-entry.invariant.gathered,
      comes_here head entries i c.entry-item.result c.loop-entry-test.true c.entry-item.is lawful,
      few_events head entries i c.entry-item.result c.loop-entry-test.true c.entry-item.is (omega (arith, c.entries-entries.type_inv)),
    )

pub loop-entry-preserved : goal.loop-entry-preserved
loop-entry-preserved c =
    let head : Head = (told_by c.args.report.now).head in
    let entries : List Entry = c.entries-entries.result.now in
    let i = c.loop-entry.entry-index in
    let x : Entry = c.entry-item.result in
    let within = c.loop-entry-test.true in
    let at = c.entry-item.is in
    let before = c.loop-entry.invariant in
    let same : entries ≡ c.args.report.now.entries = c.entries-entries.ensures ∙ ap (λ (r : ReportFields). r.entries) c.report.view_is in
    let comes = comes_here head entries i x within at (subst (λ (some : List Entry). IsLawful head some) (sym same) c.requires.lawful) in
    let p : Past = past_in head (take i entries) in
    record {
      behind = subst (λ (q : Past). AreBehind c.push_next.new.machine.state c.push_next.new.following q) (past_more head entries i x within at) (c.in_ok-push_next.ensures.behind p before.behind comes);
      gathered = subst (λ (q : Past). KnowsGathered c.push_next.new.gathered q (all_ended head (take (i + 1) entries))) (past_more head entries i x within at)
          (subst (λ (ws : List WaitEnd). KnowsGathered c.push_next.new.gathered (with_event p x.event) ws) (ended_more head entries i x within at)
          (c.in_ok-push_next.ensures.gathered p (all_ended head (take i entries)) before.behind before.gathered comes));
      text = text_more head entries i x within at c.args.names.now c.args.text.now c.loop-entry.text c.push_next.new.text before.text (c.in_ok-push_next.ensures.text p before.behind comes);
    }
