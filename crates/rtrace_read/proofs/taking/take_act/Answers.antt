use Rattle.std.proofs.Common.{Some, refl, sym, ap, ◌∙◌}
use Rattle.csv.specs.Records.{fields_of}
use Rattle.rtrace_form.specs.Lines.{Does}
use Rattle.rtrace_read.specs.declared.taken.TakenRecord.TheVariants as taken
use Rattle.rtrace_read.proofs.LineResults.{same_bad}
use Rattle.rtrace_read.proofs.RowSteps.{is_of, act_whole, act_no_more, latest_there, row_taken, row_code, row_wrong}
use Rattle.rtrace_read.proofs.OtherWords.{tells_none, act_no_wait}
use Rattle.rtrace_read.proofs.Still.{same_still}
use Rattle.rtrace_read.proofs.taking.take_act.Goals as goal

pub act_of-requires-clause-form : goal.act_of-requires-clause-form
act_of-requires-clause-form c = is_of c.args.reading.now.whole (fields_of c.args.fields.now) c.args.word c.requires.word

pub act-requires-clause-whole : goal.act-requires-clause-whole
act-requires-clause-whole c = act_whole c.args.reading.now.whole (fields_of c.args.fields.now) c.args.word c.requires.word c.requires.act

pub returns-in-Ok-act-clause-taken : goal.returns-in-Ok-act-clause-taken
returns-in-Ok-act-clause-taken c = λ whole s h.
    row_taken whole c.args.reading.now s h (fields_of c.args.fields.now) c.args.word c.requires.word (act_no_more s c.args.word c.requires.act) (Does c.in-Ok.act) c.in-Ok.ensures.told c.act.new.self (taken.Act c.in-Ok.act) (c.in-Ok-act.ensures.taken whole s h) (refl, refl, latest_there whole c.args.reading.now s h (sym h.kind ∙ act_whole c.args.reading.now.whole (fields_of c.args.fields.now) c.args.word c.requires.word c.requires.act) c.in-Ok-act.ensures.placed)

pub returns-in-Err-act-clause-bad : goal.returns-in-Err-act-clause-bad
returns-in-Err-act-clause-bad c = λ code is whole s h.
    row_code whole c.args.reading.now s h (fields_of c.args.fields.now) c.args.word c.requires.word (act_no_more s c.args.word c.requires.act) (Does c.in-Ok.act) c.in-Ok.ensures.told ∙ c.in-Err-act.ensures.bad whole s h ∙ ap Some (same_bad is)

pub returns-in-Err-clause-bad : goal.returns-in-Err-clause-bad
returns-in-Err-clause-bad c = λ code is whole s h. row_wrong whole c.args.reading.now s h (fields_of c.args.fields.now) c.args.word c.requires.word (act_no_more s c.args.word c.requires.act) c.in-Err.code c.in-Err.ensures.wrong ∙ ap Some (same_bad is)

pub returns-in-Ok-act-clause-bound : goal.returns-in-Ok-act-clause-bound
returns-in-Ok-act-clause-bound c = tells_none c.args.reading.now (fields_of c.args.fields.now) c.args.word (taken.Act c.in-Ok.act) c.requires.word (act_no_wait c.args.word c.requires.act) refl

pub returns-in-Err-act-clause-still : goal.returns-in-Err-act-clause-still
returns-in-Err-act-clause-still c = λ code is. same_still c.args.reading.now _ c.in-Err-act.ensures.still

pub returns-in-Err-clause-still : goal.returns-in-Err-clause-still
returns-in-Err-clause-still c = λ code is. same_still c.args.reading.now _ refl

pub returns-in-Ok-act-clause-counted : goal.returns-in-Ok-act-clause-counted
returns-in-Ok-act-clause-counted c = c.in-Ok-act.ensures.others
