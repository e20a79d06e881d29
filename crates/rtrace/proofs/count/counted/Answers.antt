use Rattle.std.proofs.Common.{true, sym, ap, subst, ◌∙◌}
use Rattle.std.specs.Prelude.{option_map}
use Rattle.rtrace_form.specs.WrongBounds.{wrong_bound}
use Rattle.rtrace_form.specs.Takers.{IsFirstFault}
use Rattle.rtrace_form.specs.declared.fault.Code.{Code}
use Rattle.rtrace_form.specs.declared.fault.Fault.{Fault}
use Rattle.rtrace.specs.Collects.{KnowsCount}
use Rattle.rtrace.proofs.Results.{stream_bad_is}
use Rattle.rtrace.proofs.Whole.{taken_nine, wrong_is, counts_of}
use Rattle.rtrace.proofs.count.counted.Goals as goal

pub first_wrong-requires : goal.first_wrong-requires
first_wrong-requires c = let h = c.requires.1 in (h.rows, h.knows.bounds, h.knows.knows, taken_nine KnowsCount c.requires.0 c.args.counting.now h)

pub returns-in-Ok-None-clause-right : goal.returns-in-Ok-None-clause-right
returns-in-Ok-None-clause-right c = λ text h.
    counts_of text c.args.counting.now h
    (sym (sym (ap (option_map wrong_bound) c.in-Ok-None.field-0-is) ∙ c.in-Ok-None.ensures h.rows h.knows.bounds h.knows.knows (taken_nine KnowsCount text c.args.counting.now h)))

pub returns-in-Ok-Some-clause-bad : goal.returns-in-Ok-Some-clause-bad
returns-in-Ok-Some-clause-bad c = λ fault is text h.
    subst (λ (f : Fault Code). IsFirstFault true text f) (stream_bad_is is)
    (wrong_is KnowsCount text c.args.counting.now h c.in-Ok-Some.line
    (sym (ap (option_map wrong_bound) c.in-Ok-Some.field-0-is) ∙ c.in-Ok-Some.ensures h.rows h.knows.bounds h.knows.knows (taken_nine KnowsCount text c.args.counting.now h)))

pub returns-in-Ok-Some-clause-bound : goal.returns-in-Ok-Some-clause-bound
returns-in-Ok-Some-clause-bound c = λ fault is. ap (λ (f : Fault Code). f.code) (sym (stream_bad_is is))
