use Rattle.std.proofs.Common.{Some, refl, ap, ◌∙◌}
use Rattle.csv.specs.Records.{fields_of}
use Rattle.rtrace_form.specs.declared.word.Word.TheVariants as word
use Rattle.rtrace_form.specs.WaitRecords.{line_told}
use Rattle.rtrace_read.specs.declared.taken.TakenRecord.TheVariants as taken
use Rattle.rtrace_read.proofs.LineResults.{same_bad}
use Rattle.rtrace_read.proofs.RowSteps.{is_of, row_taken, row_code, row_wrong, row_bound}
use Rattle.rtrace_read.proofs.Still.{same_still}
use Rattle.rtrace_read.proofs.taking.take_wait.Goals as goal

pub wait_of-requires : goal.wait_of-requires
wait_of-requires c = is_of c.args.reading.now.whole (fields_of c.args.fields.now) (word.Wait c.args.stage) c.requires

pub returns-in-Ok-wait-clause-taken : goal.returns-in-Ok-wait-clause-taken
returns-in-Ok-wait-clause-taken c = λ whole s h.
    row_taken whole c.args.reading.now s h (fields_of c.args.fields.now) (word.Wait c.args.stage) c.requires refl (line_told c.in-Ok.told) c.in-Ok.ensures.told c.wait.new.self (taken.Wait (record { wait = c.in-Ok-wait.wait; bound = c.in-Ok.told.bound })) (c.in-Ok-wait.ensures.taken whole s h) (refl, refl, c.in-Ok-wait.ensures.first whole s h)

pub returns-in-Err-wait-clause-bad : goal.returns-in-Err-wait-clause-bad
returns-in-Err-wait-clause-bad c = λ code is whole s h.
    row_code whole c.args.reading.now s h (fields_of c.args.fields.now) (word.Wait c.args.stage) c.requires refl (line_told c.in-Ok.told) c.in-Ok.ensures.told ∙ c.in-Err-wait.ensures.bad whole s h ∙ ap Some (same_bad is)

pub returns-in-Err-clause-bad : goal.returns-in-Err-clause-bad
returns-in-Err-clause-bad c = λ code is whole s h. row_wrong whole c.args.reading.now s h (fields_of c.args.fields.now) (word.Wait c.args.stage) c.requires refl c.in-Err.code c.in-Err.ensures.wrong ∙ ap Some (same_bad is)

pub returns-in-Ok-wait-clause-bound : goal.returns-in-Ok-wait-clause-bound
returns-in-Ok-wait-clause-bound c = λ whole s h. row_bound whole c.args.reading.now s h (fields_of c.args.fields.now) (word.Wait c.args.stage) c.requires (line_told c.in-Ok.told) c.in-Ok.ensures.told

pub returns-in-Err-wait-clause-still : goal.returns-in-Err-wait-clause-still
returns-in-Err-wait-clause-still c = λ code is. same_still c.args.reading.now _ c.in-Err-wait.ensures.still

pub returns-in-Err-clause-still : goal.returns-in-Err-clause-still
returns-in-Err-clause-still c = λ code is. same_still c.args.reading.now _ refl

pub returns-in-Ok-wait-clause-counted : goal.returns-in-Ok-wait-clause-counted
returns-in-Ok-wait-clause-counted c = c.in-Ok-wait.ensures.counted
