use Rattle.std.proofs.Common.{false, sym, subst, arith}
use Rattle.csv.specs.Records.{fields_of}
use Rattle.rtrace_form.specs.Faults.{read_all}
use Rattle.rtrace_form.specs.SoFar.{SoFar}
use Rattle.rtrace_form.proofs.texts.Lists.{entries_few, read_more}
use Rattle.rtrace_read.proofs.Results.{same_err}
use Rattle.rtrace.specs.Collects.{KnowsList}
use Rattle.rtrace.proofs.Keeping.{keeps_all}
use Rattle.rtrace.proofs.collect.CollectingRecords.take.Goals as goal

pub take-requires : goal.take-requires
take-requires c =
    let few = entries_few false c.requires.0 in
    let small = c.requires.2 in
    (false, read_all false c.requires.0, c.requires.1.knows, omega (arith, few, small))

pub returns-in-Err-clause-bad : goal.returns-in-Err-clause-bad
returns-in-Err-clause-bad c = λ cause is rows h. c.in-Err.ensures.bad cause (same_err is) false (read_all false rows) h.knows

pub returns-clause-taken : goal.returns-clause-taken
returns-clause-taken c = λ rows h.
    let row = fields_of c.args.fields.now in
    let kept = keeps_all false c.args.self.now c.keep_taken.new.self c.take.new.reading (read_all false rows) row c.take.new.taken h c.in_default.ensures.taken c.in-Ok.ensures.ok in
    (kept.0, subst (λ (s : SoFar). KnowsList c.keep_taken.new.self s) (sym (read_more false rows row)) kept.1)
