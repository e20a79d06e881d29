use Rattle.std.proofs.Common.{ap, ◌∙◌}
use Rattle.rtrace_write.proofs.Parts.{parts_are}
use Rattle.rtrace_write.specs.Report.{ReportFields, told_by}
use Rattle.rtrace_write.proofs.Counts.{few_ledgers}
use Rattle.rtrace_write.proofs.write.parts_of.Goals as goal

pub ending_of-requires : goal.ending_of-requires
ending_of-requires c =
    few_ledgers c.args.report.now c.deref.result.now (c.deref.ensures.value ∙ ap (λ (r : ReportFields). r.ledgers) c.report.view_is) c.requires.ledgers c.requires.may.head.resources_named

pub returns : goal.returns
returns c =
    let view = c.report.view_is in
    parts_are (told_by c.args.report.now) c.in_ok-names.names c.report.inside.groups.groups c.report.inside.cap c.deref.result.now c.in_ok-head.head c.in_ok-history.history c.in_ok-ending.ending
    (c.in_ok-names.ensures ∙ (λ i. record { resources = (view i).resources; tasks = (view i).tasks }))
    (ap (λ (r : ReportFields). r.groups.groups) view) (ap (λ (r : ReportFields). r.cap) view)
    (c.deref.ensures.value ∙ ap (λ (r : ReportFields). r.ledgers) view ∙ c.requires.ledgers)
    c.in_ok-head.ensures c.in_ok-history.ensures c.in_ok-ending.ensures
