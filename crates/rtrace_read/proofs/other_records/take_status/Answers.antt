use Rattle.std.proofs.Common.{Some, ap, ◌∙◌, refl}
use Rattle.csv.specs.Records.{fields_of}
use Rattle.rtrace_form.specs.Reports.{status_line}
use Rattle.rtrace_read.specs.declared.taken.TakenRecord.TheVariants as taken
use Rattle.rtrace_read.proofs.Codes.{status_changes}
use Rattle.rtrace_read.proofs.LineResults.{same_bad}
use Rattle.rtrace_read.proofs.RowSteps.{is_of, status_no_more, row_taken, row_code, row_wrong, change_adds}
use Rattle.rtrace_read.proofs.Still.{same_still}
use Rattle.rtrace_read.proofs.Counting.{word_counts, status_counts}
use Rattle.rtrace_read.proofs.other_records.take_status.Goals as goal

pub change_of-requires-clause-form : goal.change_of-requires-clause-form
change_of-requires-clause-form c = is_of c.args.reading.now.whole (fields_of c.args.fields.now) c.args.word c.requires.word

pub returns-in-Ok-status-clause-taken : goal.returns-in-Ok-status-clause-taken
returns-in-Ok-status-clause-taken c = λ whole s h.
    row_taken whole c.args.reading.now s h (fields_of c.args.fields.now) c.args.word c.requires.word (status_no_more s c.args.word c.requires.change) (status_line c.in-Ok.change) c.in-Ok.ensures.told c.status.new.self taken.Other
    (c.in-Ok-status.ensures.taken whole s h) (change_adds whole s (status_line c.in-Ok.change) (status_changes c.in-Ok.change))

pub returns-in-Err-status-clause-bad : goal.returns-in-Err-status-clause-bad
returns-in-Err-status-clause-bad c = λ code is whole s h.
    row_code whole c.args.reading.now s h (fields_of c.args.fields.now) c.args.word c.requires.word (status_no_more s c.args.word c.requires.change) (status_line c.in-Ok.change) c.in-Ok.ensures.told
    ∙ c.in-Err-status.ensures.bad whole s h ∙ ap Some (same_bad is)

pub returns-in-Err-clause-bad : goal.returns-in-Err-clause-bad
returns-in-Err-clause-bad c = λ code is whole s h.
    row_wrong whole c.args.reading.now s h (fields_of c.args.fields.now) c.args.word c.requires.word (status_no_more s c.args.word c.requires.change) c.in-Err.code c.in-Err.ensures.wrong ∙ ap Some (same_bad is)

pub returns-in-Err-status-clause-still : goal.returns-in-Err-status-clause-still
returns-in-Err-status-clause-still c = λ code is. same_still c.args.reading.now _ c.in-Err-status.ensures.still

pub returns-in-Err-clause-still : goal.returns-in-Err-clause-still
returns-in-Err-clause-still c = λ code is. same_still c.args.reading.now _ refl

pub returns-in-Ok-status-clause-counted : goal.returns-in-Ok-status-clause-counted
returns-in-Ok-status-clause-counted c = word_counts c.args.reading.now c.status.new.self (fields_of c.args.fields.now) c.args.word c.requires.word (status_counts c.args.reading.now c.status.new.self c.args.word c.requires.change c.in-Ok-status.ensures.counted)
