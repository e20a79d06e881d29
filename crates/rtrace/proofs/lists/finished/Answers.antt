use Rattle.std.proofs.Common.{true, sym, ap, subst, ◌∙◌}
use Rattle.std.specs.Prelude.{option_map}
use Rattle.rtrace_form.specs.Faults.{read_all}
use Rattle.rtrace_form.specs.WrongBounds.{wrong_bound}
use Rattle.rtrace_form.specs.Takers.{IsFirstFault}
use Rattle.rtrace_form.specs.declared.fault.Code.{Code}
use Rattle.rtrace_form.specs.declared.fault.Fault.{Fault}
use Rattle.rtrace.specs.Collects.{KnowsReport}
use Rattle.rtrace.proofs.Results.{if_ok, bad_is}
use Rattle.rtrace.proofs.Whole.{read_whole_at, taken_nine, wrong_is, right_spells}
use Rattle.rtrace.proofs.lists.finished.Goals as goal

pub first_wrong-requires : goal.first_wrong-requires
first_wrong-requires c = let h = c.requires.1 in (h.rows, h.knows.bounds, h.knows.knows.knows, taken_nine KnowsReport c.requires.0 c.args.taker.now h)

pub returns-in-Ok-None-clause-report : goal.returns-in-Ok-None-clause-report
returns-in-Ok-None-clause-report c = if_ok c.report.result _ _ c.report.ensures.report (λ r is bytes h.
    let right = sym (sym (ap (option_map wrong_bound) c.in-Ok-None.field-0-is) ∙ c.in-Ok-None.ensures h.rows h.knows.bounds h.knows.knows.knows (taken_nine KnowsReport bytes c.args.taker.now h)) in
    let told = is true (read_all true h.rows) h.knows.knows in
    read_whole_at true bytes h.rows r h.are (right_spells KnowsReport bytes c.args.taker.now h right) told)

pub returns-in-Ok-Some-clause-bad : goal.returns-in-Ok-Some-clause-bad
returns-in-Ok-Some-clause-bad c = λ fault is bytes h.
    subst (λ (f : Fault Code). IsFirstFault true bytes f) (bad_is is)
    (wrong_is KnowsReport bytes c.args.taker.now h c.in-Ok-Some.line
    (sym (ap (option_map wrong_bound) c.in-Ok-Some.field-0-is) ∙ c.in-Ok-Some.ensures h.rows h.knows.bounds h.knows.knows.knows (taken_nine KnowsReport bytes c.args.taker.now h)))
