use Rattle.std.proofs.Common.{Some, refl, ap, ◌∙◌}
use Rattle.csv.specs.Records.{fields_of}
use Rattle.rtrace_form.specs.Lines.{Ends}
use Rattle.rtrace_form.specs.Told.{names_by}
use Rattle.rtrace_form.specs.declared.word.Word.TheVariants as word
use Rattle.rtrace_read.specs.declared.taken.TakenRecord.TheVariants as taken
use Rattle.rtrace_read.proofs.LineResults.{same_bad}
use Rattle.rtrace_read.proofs.RowSteps.{is_of, end_says, row_taken, row_code}
use Rattle.rtrace_read.proofs.Still.{same_still}
use Rattle.rtrace_read.proofs.Counting.{word_counts}
use Rattle.rtrace_read.proofs.other_records.take_end.Goals as goal

pub returns-in-Ok-clause-taken : goal.returns-in-Ok-clause-taken
returns-in-Ok-clause-taken c = λ whole s h.
    row_taken whole c.args.reading.now s h (fields_of c.args.fields.now) word.End c.requires refl Ends (end_says (names_by c.args.reading.now.resources c.args.reading.now.tasks) (fields_of c.args.fields.now) (is_of c.args.reading.now.whole (fields_of c.args.fields.now) word.End c.requires)) c.end.new.self taken.Other (c.in-Ok.ensures.taken whole s h) (refl, refl)

pub returns-in-Err-clause-bad : goal.returns-in-Err-clause-bad
returns-in-Err-clause-bad c = λ code is whole s h. row_code whole c.args.reading.now s h (fields_of c.args.fields.now) word.End c.requires refl Ends (end_says (names_by c.args.reading.now.resources c.args.reading.now.tasks) (fields_of c.args.fields.now) (is_of c.args.reading.now.whole (fields_of c.args.fields.now) word.End c.requires)) ∙ c.in-Err.ensures.bad whole s h ∙ ap Some (same_bad is)

pub returns-in-Err-clause-still : goal.returns-in-Err-clause-still
returns-in-Err-clause-still c = λ code is. same_still c.args.reading.now _ c.in-Err.ensures.still

pub returns-in-Ok-clause-counted : goal.returns-in-Ok-clause-counted
returns-in-Ok-clause-counted c = word_counts c.args.reading.now c.end.new.self (fields_of c.args.fields.now) word.End c.requires c.in-Ok.ensures.last
