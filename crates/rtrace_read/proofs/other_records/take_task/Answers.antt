use Rattle.std.proofs.Common.{ℕ, List, refl, sym, subst, ◌∙◌}
use Rattle.csv.specs.Records.{fields_of}
use Rattle.rtrace_form.specs.Lines.{HasTask}
use Rattle.rtrace_form.specs.Told.{Says, names_by}
use Rattle.rtrace_form.specs.declared.word.Word.TheVariants as word
use Rattle.rtrace_read.specs.declared.taken.TakenRecord.TheVariants as taken
use Rattle.rtrace_read.proofs.Results.{same_err}
use Rattle.rtrace_read.proofs.RowSteps.{is_of, task_says, row_taken, row_code}
use Rattle.rtrace_read.proofs.Names.{task_names}
use Rattle.rtrace_read.proofs.Counting.{word_counts}
use Rattle.rtrace_read.proofs.other_records.take_task.Goals as goal

pub returns-in-Ok-clause-taken : goal.returns-in-Ok-clause-taken
returns-in-Ok-clause-taken c = λ whole s h.
    row_taken whole c.args.reading.now s h (fields_of c.args.fields.now) word.Task c.requires refl (HasTask c.field_of.result.now) (subst (λ (name : List ℕ). Says (names_by c.args.reading.now.resources c.args.reading.now.tasks) word.Task (fields_of c.args.fields.now) (HasTask name)) (sym c.field_of.ensures) (task_says (names_by c.args.reading.now.resources c.args.reading.now.tasks) (fields_of c.args.fields.now) (is_of c.args.reading.now.whole (fields_of c.args.fields.now) word.Task c.requires))) c.task.new.self taken.Other (c.in-Ok.ensures.taken whole s h) (refl, refl)

pub returns-in-Err-clause-bad : goal.returns-in-Err-clause-bad
returns-in-Err-clause-bad c = λ code is whole s h. row_code whole c.args.reading.now s h (fields_of c.args.fields.now) word.Task c.requires refl (HasTask c.field_of.result.now) (subst (λ (name : List ℕ). Says (names_by c.args.reading.now.resources c.args.reading.now.tasks) word.Task (fields_of c.args.fields.now) (HasTask name)) (sym c.field_of.ensures) (task_says (names_by c.args.reading.now.resources c.args.reading.now.tasks) (fields_of c.args.fields.now) (is_of c.args.reading.now.whole (fields_of c.args.fields.now) word.Task c.requires))) ∙ c.in-Err.ensures.bad code (same_err is) whole s h

pub returns-in-Err-clause-still : goal.returns-in-Err-clause-still
returns-in-Err-clause-still c = λ code is. c.in-Err.ensures.still code (same_err is)

pub returns-in-Err-clause-names : goal.returns-in-Err-clause-names
returns-in-Err-clause-names c = λ code is. task_names c.args.reading.now c.task.new.self (fields_of c.args.fields.now) c.field_of.result.now c.requires c.field_of.ensures (c.in-Err.ensures.names code (same_err is))

pub returns-in-Ok-clause-counted : goal.returns-in-Ok-clause-counted
returns-in-Ok-clause-counted c = word_counts c.args.reading.now c.task.new.self (fields_of c.args.fields.now) word.Task c.requires tt
