use Rattle.std.proofs.Common.{Some, refl, ap, ◌∙◌}
use Rattle.csv.specs.Records.{fields_of}
use Rattle.rtrace_form.specs.Lines.{Leaves}
use Rattle.rtrace_form.specs.declared.word.Word.TheVariants as word
use Rattle.rtrace_read.specs.declared.taken.TakenRecord.TheVariants as taken
use Rattle.rtrace_read.proofs.LineResults.{same_bad}
use Rattle.rtrace_read.proofs.RowSteps.{is_of, ledger_whole, row_taken, row_code, row_wrong}
use Rattle.rtrace_read.proofs.Still.{same_still}
use Rattle.rtrace_read.proofs.Counting.{word_counts}
use Rattle.rtrace_read.proofs.other_records.take_ledger.Goals as goal

pub ledger_of-requires : goal.ledger_of-requires
ledger_of-requires c = is_of c.args.reading.now.whole (fields_of c.args.fields.now) word.Ledger c.requires

pub leave-requires : goal.leave-requires
leave-requires c = ledger_whole c.args.reading.now.whole (fields_of c.args.fields.now) c.requires

pub returns-in-Ok-leave-clause-taken : goal.returns-in-Ok-leave-clause-taken
returns-in-Ok-leave-clause-taken c = λ whole s h.
    row_taken whole c.args.reading.now s h (fields_of c.args.fields.now) word.Ledger c.requires refl (Leaves c.in-Ok.place c.in-Ok.ledger) c.in-Ok.ensures.told c.leave.new.self taken.Other (c.in-Ok-leave.ensures.taken whole s h) (refl, refl)

pub returns-in-Err-leave-clause-bad : goal.returns-in-Err-leave-clause-bad
returns-in-Err-leave-clause-bad c = λ code is whole s h.
    row_code whole c.args.reading.now s h (fields_of c.args.fields.now) word.Ledger c.requires refl (Leaves c.in-Ok.place c.in-Ok.ledger) c.in-Ok.ensures.told ∙ c.in-Err-leave.ensures.bad whole s h ∙ ap Some (same_bad is)

pub returns-in-Err-clause-bad : goal.returns-in-Err-clause-bad
returns-in-Err-clause-bad c = λ code is whole s h. row_wrong whole c.args.reading.now s h (fields_of c.args.fields.now) word.Ledger c.requires refl c.in-Err.code c.in-Err.ensures.wrong ∙ ap Some (same_bad is)

pub returns-in-Err-leave-clause-still : goal.returns-in-Err-leave-clause-still
returns-in-Err-leave-clause-still c = λ code is. same_still c.args.reading.now _ c.in-Err-leave.ensures.still

pub returns-in-Err-clause-still : goal.returns-in-Err-clause-still
returns-in-Err-clause-still c = λ code is. same_still c.args.reading.now _ refl

pub returns-in-Ok-leave-clause-counted : goal.returns-in-Ok-leave-clause-counted
returns-in-Ok-leave-clause-counted c = word_counts c.args.reading.now c.leave.new.self (fields_of c.args.fields.now) word.Ledger c.requires c.in-Ok-leave.ensures.counted
