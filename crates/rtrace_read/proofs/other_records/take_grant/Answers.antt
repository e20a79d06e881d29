use Rattle.std.proofs.Common.{Some, refl, ap, ◌∙◌}
use Rattle.csv.specs.Records.{fields_of}
use Rattle.rtrace_form.specs.Lines.{Grants}
use Rattle.rtrace_form.specs.declared.word.Word.TheVariants as word
use Rattle.rtrace_read.specs.declared.taken.TakenRecord.TheVariants as taken
use Rattle.rtrace_read.proofs.LineResults.{same_bad}
use Rattle.rtrace_read.proofs.RowSteps.{is_of, row_taken, row_code, row_wrong}
use Rattle.rtrace_read.proofs.Still.{same_still}
use Rattle.rtrace_read.proofs.Counting.{word_counts}
use Rattle.rtrace_read.proofs.other_records.take_grant.Goals as goal

pub grant_of-requires : goal.grant_of-requires
grant_of-requires c = is_of c.args.reading.now.whole (fields_of c.args.fields.now) word.Grant c.requires

pub returns-in-Ok-grant-clause-taken : goal.returns-in-Ok-grant-clause-taken
returns-in-Ok-grant-clause-taken c = λ whole s h.
    row_taken whole c.args.reading.now s h (fields_of c.args.fields.now) word.Grant c.requires refl (Grants c.in-Ok.told.seat c.in-Ok.told.set) c.in-Ok.ensures.told c.grant.new.self taken.Other (c.in-Ok-grant.ensures.taken whole s h) (refl, refl)

pub returns-in-Err-grant-clause-bad : goal.returns-in-Err-grant-clause-bad
returns-in-Err-grant-clause-bad c = λ code is whole s h.
    row_code whole c.args.reading.now s h (fields_of c.args.fields.now) word.Grant c.requires refl (Grants c.in-Ok.told.seat c.in-Ok.told.set) c.in-Ok.ensures.told ∙ c.in-Err-grant.ensures.bad whole s h ∙ ap Some (same_bad is)

pub returns-in-Err-clause-bad : goal.returns-in-Err-clause-bad
returns-in-Err-clause-bad c = λ code is whole s h. row_wrong whole c.args.reading.now s h (fields_of c.args.fields.now) word.Grant c.requires refl c.in-Err.code c.in-Err.ensures.wrong ∙ ap Some (same_bad is)

pub returns-in-Err-grant-clause-still : goal.returns-in-Err-grant-clause-still
returns-in-Err-grant-clause-still c = λ code is. same_still c.args.reading.now _ c.in-Err-grant.ensures.still

pub returns-in-Err-clause-still : goal.returns-in-Err-clause-still
returns-in-Err-clause-still c = λ code is. same_still c.args.reading.now _ refl

pub returns-in-Ok-grant-clause-counted : goal.returns-in-Ok-grant-clause-counted
returns-in-Ok-grant-clause-counted c = word_counts c.args.reading.now c.grant.new.self (fields_of c.args.fields.now) word.Grant c.requires c.in-Ok-grant.ensures.counted
