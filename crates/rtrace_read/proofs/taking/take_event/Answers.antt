use Rattle.std.proofs.Common.{Option, Some, refl, sym, ap, subst, ◌∙◌}
use Rattle.std.proofs.lemmas.Result.{on_ok_weaker}
use Rattle.std.specs.Prelude.{OnOk}
use Rattle.csv.specs.Records.{fields_of}
use Rattle.rclaim.specs.declared.event.Event.{Event}
use Rattle.rclaim.specs.declared.request.RequestErr.{RequestErr}
use Rattle.rtrace_form.specs.Faults.{line_code}
use Rattle.rtrace_form.specs.Lines.{Happens}
use Rattle.rtrace_form.specs.SoFar.{lock_in}
use Rattle.rtrace_form.specs.declared.fault.Refusal.TheVariants.{Request}
use Rattle.rtrace_read.specs.LineTakes.{Takes, FitsTold}
use Rattle.rtrace_read.specs.Takes.{TakesRow, TellsBound, CountsRow, AllowsActs, IsKept}
use Rattle.rtrace_read.specs.declared.taken.TakenRecord.{TakenRecord}
use Rattle.rtrace_read.specs.declared.taken.TakenRecord.TheVariants as taken
use Rattle.rtrace_read.proofs.EventSteps.{happen_refused, event_misplaced}
use Rattle.rtrace_read.proofs.LineResults.{same_bad}
use Rattle.rtrace_read.proofs.Results.{same_event}
use Rattle.rtrace_read.proofs.RowSteps.{is_of, event_no_more, event_fits, alone_refused, row_taken, row_code, row_wrong}
use Rattle.rtrace_read.proofs.OtherWords.{tells_none, event_no_wait}
use Rattle.rtrace_read.proofs.Still.{same_still}
use Rattle.rtrace_read.proofs.taking.take_event.Goals as goal

pub keep_event-requires-clause-form : goal.keep_event-requires-clause-form
keep_event-requires-clause-form c = is_of c.args.reading.now.whole (fields_of c.args.fields.now) c.args.word c.requires.word

pub returns-in-Err-clause-bad : goal.returns-in-Err-clause-bad
returns-in-Err-clause-bad c = λ code is whole s h. row_wrong whole c.args.reading.now s h (fields_of c.args.fields.now) c.args.word c.requires.word (event_no_more s c.args.word c.requires.event) c.in-Err.code c.in-Err.ensures.wrong ∙ ap Some (same_bad is)

pub returns-in-Some-clause-bad : goal.returns-in-Some-clause-bad
returns-in-Some-clause-bad c = λ code is whole s h.
    let told = c.in-Ok.ensures.kept in
    row_code whole c.args.reading.now s h (fields_of c.args.fields.now) c.args.word c.requires.word (event_no_more s c.args.word c.requires.event) (Happens told.0) told.1
    ∙ event_misplaced whole s told.0 c.in-Some.code (sym (c.misplaced.ensures whole s h) ∙ c.in-Some.is) ∙ ap Some (same_bad is)

pub returns-in-Some-refused-clause-bad : goal.returns-in-Some-refused-clause-bad
returns-in-Some-refused-clause-bad c = λ code is whole s h.
    let told = c.in-Ok.ensures.kept in
    row_code whole c.args.reading.now s h (fields_of c.args.fields.now) c.args.word c.requires.word (event_no_more s c.args.word c.requires.event) (Happens told.0) told.1
    ∙ happen_refused whole c.args.reading.now s h told.0 (sym (c.misplaced.ensures whole s h) ∙ c.in_default.is) (Request c.in-Some-refused.cause)
    (alone_refused (lock_in s) told.0 c.in-Some-refused.cause (subst (λ (o : Option RequestErr). IsKept o c.keep_event.new.taken told.0) c.in-Some-refused.is told.2)) ∙ ap Some (same_bad is)

pub happen-requires-clause-fits : goal.happen-requires-clause-fits
happen-requires-clause-fits c = λ whole s h few.
    let told = c.in-Ok.ensures.kept in
    let kept = subst (λ (o : Option RequestErr). IsKept o c.keep_event.new.taken told.0) c.in_default-refused.is told.2 in
    let same = same_event (sym c.in-Event.is ∙ kept.0) in
    subst (λ (e : Event). FitsTold (lock_in s) e) (sym same)
    (event_fits whole c.args.reading.now s h few c.args.word (fields_of c.args.fields.now) told.0 told.0 told.1 kept.1)

pub returns-clause-taken : goal.returns-clause-taken
returns-clause-taken c =
    let told = c.in-Ok.ensures.kept in
    let kept = subst (λ (o : Option RequestErr). IsKept o c.keep_event.new.taken told.0) c.in_default-refused.is told.2 in
    let same = same_event (sym c.in-Event.is ∙ kept.0) in
    let old = c.args.reading.now in
    let new = c.happen.new.self in
    let row = fields_of c.args.fields.now in
    on_ok_weaker c.happen.result
    (λ takes.
    subst (λ (what : TakenRecord). TakesRow old new row what) (sym kept.0)
    (λ whole s h.
    row_taken whole old s h row c.args.word c.requires.word (event_no_more s c.args.word c.requires.event) (Happens told.0) told.1 new (taken.Event told.0)
    (subst (λ (e : Event). Takes old new (Happens e)) same takes whole s h) (refl, refl)))
    c.happen.ensures.taken

pub returns-clause-bound : goal.returns-clause-bound
returns-clause-bound c =
    let told = c.in-Ok.ensures.kept in
    let kept = subst (λ (o : Option RequestErr). IsKept o c.keep_event.new.taken told.0) c.in_default-refused.is told.2 in
    on_ok_weaker c.happen.result
    (λ _.
    subst (λ (what : TakenRecord). TellsBound c.args.reading.now (fields_of c.args.fields.now) what) (sym kept.0)
    (tells_none c.args.reading.now (fields_of c.args.fields.now) c.args.word (taken.Event told.0) c.requires.word (event_no_wait c.args.word c.requires.event) refl))
    c.happen.ensures.taken

pub returns-clause-bad : goal.returns-clause-bad
returns-clause-bad c = λ code is whole s h.
    let told = c.in-Ok.ensures.kept in
    let kept = subst (λ (o : Option RequestErr). IsKept o c.keep_event.new.taken told.0) c.in_default-refused.is told.2 in
    let same = same_event (sym c.in-Event.is ∙ kept.0) in
    row_code whole c.args.reading.now s h (fields_of c.args.fields.now) c.args.word c.requires.word (event_no_more s c.args.word c.requires.event) (Happens told.0) told.1
    ∙ ap (λ (e : Event). line_code whole s (Happens e)) (sym same) ∙ c.happen.ensures.bad code is whole s h

pub returns-in-Err-clause-still : goal.returns-in-Err-clause-still
returns-in-Err-clause-still c = λ code is. same_still c.args.reading.now _ refl

pub returns-in-Some-clause-still : goal.returns-in-Some-clause-still
returns-in-Some-clause-still c = λ code is. same_still c.args.reading.now _ refl

pub returns-in-Some-refused-clause-still : goal.returns-in-Some-refused-clause-still
returns-in-Some-refused-clause-still c = λ code is. same_still c.args.reading.now _ refl

pub returns-clause-counted : goal.returns-clause-counted
returns-clause-counted c =
    subst (λ (what : TakenRecord). OnOk c.happen.result (CountsRow c.args.reading.now c.happen.new.self (fields_of c.args.fields.now) what)) (sym c.in-Event.is) c.happen.ensures.counted

pub returns-clause-allowed : goal.returns-clause-allowed
returns-clause-allowed c =
    subst (λ (what : TakenRecord). OnOk c.happen.result (AllowsActs c.args.reading.now c.happen.new.self what)) (sym c.in-Event.is)
    (on_ok_weaker c.happen.result (λ report. (report, c.happen.ensures.listed)) c.happen.ensures.allowed)
