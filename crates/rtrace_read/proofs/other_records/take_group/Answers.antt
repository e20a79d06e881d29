use Rattle.std.proofs.Common.{Some, refl, sym, ap, ◌∙◌}
use Rattle.csv.specs.Records.{fields_of}
use Rattle.rtrace_form.specs.Lines.{HasGroup}
use Rattle.rtrace_form.specs.declared.word.Word.TheVariants as word
use Rattle.rtrace_read.specs.declared.taken.TakenRecord.TheVariants as taken
use Rattle.rtrace_read.proofs.LineResults.{same_bad}
use Rattle.rtrace_read.proofs.Results.{same_err}
use Rattle.rtrace_read.proofs.RowSteps.{is_of, row_more, row_taken, row_code, row_wrong}
use Rattle.rtrace_read.proofs.Still.{same_still}
use Rattle.rtrace_read.proofs.Counting.{word_counts}
use Rattle.rtrace_read.proofs.other_records.take_group.Goals as goal

pub returns-then-has_all_groups-clause-bad : goal.returns-then-has_all_groups-clause-bad
returns-then-has_all_groups-clause-bad c = λ code is whole s h.
    row_more whole c.args.reading.now s h (fields_of c.args.fields.now) word.Group c.requires.word (sym (c.has_all_groups.ensures.all whole s h) ∙ c.if-has_all_groups.true) ∙ ap Some (same_bad is)

pub group_of-requires : goal.group_of-requires
group_of-requires c = is_of c.args.reading.now.whole (fields_of c.args.fields.now) word.Group c.requires.word

pub group-requires-clause-room : goal.group-requires-clause-room
group-requires-clause-room c = λ whole s h. c.has_all_groups.ensures.room whole s h c.if-has_all_groups.false

pub returns-in-Ok-group-clause-taken : goal.returns-in-Ok-group-clause-taken
returns-in-Ok-group-clause-taken c = λ whole s h.
    row_taken whole c.args.reading.now s h (fields_of c.args.fields.now) word.Group c.requires.word (sym (c.has_all_groups.ensures.all whole s h) ∙ c.if-has_all_groups.false) (HasGroup c.in-Ok.set) c.in-Ok.ensures.told c.group.new.self taken.Other (c.in-Ok-group.ensures.taken whole s h) (refl, refl)

pub returns-in-Err-group-clause-bad : goal.returns-in-Err-group-clause-bad
returns-in-Err-group-clause-bad c = λ code is whole s h. row_code whole c.args.reading.now s h (fields_of c.args.fields.now) word.Group c.requires.word (sym (c.has_all_groups.ensures.all whole s h) ∙ c.if-has_all_groups.false) (HasGroup c.in-Ok.set) c.in-Ok.ensures.told ∙ c.in-Err-group.ensures.bad code (same_err is) whole s h

pub returns-in-Err-clause-bad : goal.returns-in-Err-clause-bad
returns-in-Err-clause-bad c = λ code is whole s h. row_wrong whole c.args.reading.now s h (fields_of c.args.fields.now) word.Group c.requires.word (sym (c.has_all_groups.ensures.all whole s h) ∙ c.if-has_all_groups.false) c.in-Err.code c.in-Err.ensures.wrong ∙ ap Some (same_bad is)

pub returns-then-has_all_groups-clause-still : goal.returns-then-has_all_groups-clause-still
returns-then-has_all_groups-clause-still c = λ code is. same_still c.args.reading.now _ refl

pub returns-in-Err-group-clause-still : goal.returns-in-Err-group-clause-still
returns-in-Err-group-clause-still c = λ code is. c.in-Err-group.ensures.still code (same_err is)

pub returns-in-Err-clause-still : goal.returns-in-Err-clause-still
returns-in-Err-clause-still c = λ code is. same_still c.args.reading.now _ refl

pub returns-in-Ok-group-clause-counted : goal.returns-in-Ok-group-clause-counted
returns-in-Ok-group-clause-counted c = word_counts c.args.reading.now c.group.new.self (fields_of c.args.fields.now) word.Group c.requires.word tt
