use Rattle.std.proofs.Common.{Some, sym, ap, ◌∙◌, refl}
use Rattle.csv.specs.Records.{fields_of}
use Rattle.rtrace_read.proofs.LineResults.{same_bad}
use Rattle.rtrace_read.proofs.RowSteps.{row_unknown}
use Rattle.rtrace_read.proofs.Still.{same_still}
use Rattle.rtrace_read.proofs.taking.take.Goals as goal

pub returns-in_default-clause-bad : goal.returns-in_default-clause-bad
returns-in_default-clause-bad c = λ code is whole s h. row_unknown whole c.args.reading.now s h (fields_of c.args.fields.now) (sym c.word_in.ensures ∙ c.in_default.is) ∙ ap Some (same_bad is)

pub returns-in_default-clause-still : goal.returns-in_default-clause-still
returns-in_default-clause-still c = λ code is. same_still c.args.reading.now _ refl
