use Rattle.std.proofs.Common.{Err, sym, ap, subst, ◌∙◌}
use Rattle.rtrace_form.specs.Takers.{IsFaultOf, StandsAt}
use Rattle.rtrace_form.specs.declared.fault.Fault.{Fault}
use Rattle.rtrace_form.proofs.texts.Place.{err_is}
use Rattle.rtrace.specs.Windows.{held}
use Rattle.rtrace.proofs.Errors.{bad_text}
use Rattle.rtrace.proofs.Feeding.{all_taken, not_done, fault_in_rest, refused_in_rest, stands_at_end}
use Rattle.rtrace.proofs.feed.take_rest.Goals as goal

pub returns-in-Ok-end_at-clause-taken : goal.returns-in-Ok-end_at-clause-taken
returns-in-Ok-end_at-clause-taken g c = λ text fed.
    all_taken g.T.Records.code g.T.Records.is_done g.T.Records.no_end g.T.Records.knows g.met.T.Shortened.faults_stay g.met.T.Shortened.knowledge_stays text (held c.args.window.now) c.args.taker.now c.args.from fed c.take_part.new.taker c.in-Ok.line
    (rw c.deref.ensures.value at (c.in-Ok.ensures.taken fed.rows fed.knows fed.counted)) c.in-Ok-end_at.ensures.taken

pub returns-in-Err-end_at-clause-bad : goal.returns-in-Err-end_at-clause-bad
returns-in-Err-end_at-clause-bad g c = λ text fed fault is.
    let told = c.in-Err-end_at.ensures.bad fault (ap Err (bad_text c.in-Err-end_at.e fault (sym c.text_error_of.ensures ∙ err_is is))) in
    subst (λ (f : Fault _). IsFaultOf g.T.Records.code g.T.Records.is_done g.T.Records.no_end text f) (sym told.0)
    (not_done g.T.Records.code g.T.Records.is_done g.T.Records.no_end g.T.Records.knows g.met.T.Shortened.faults_stay g.met.T.Shortened.knowledge_stays text (held c.args.window.now) c.args.taker.now c.args.from fed c.take_part.new.taker c.in-Ok.line
    (rw c.deref.ensures.value at (c.in-Ok.ensures.taken fed.rows fed.knows fed.counted)) told.1)

pub returns-in-Err-clause-bad : goal.returns-in-Err-clause-bad
returns-in-Err-clause-bad g c = λ text fed fault is.
    fault_in_rest g.T.Records.code g.T.Records.is_done g.T.Records.no_end g.T.Records.knows g.met.T.Shortened.faults_stay g.met.T.Shortened.knowledge_stays text (held c.args.window.now) c.args.taker.now c.args.from fed fault
    (rw c.deref.ensures.value at (c.in-Err.ensures.bad fed.rows fed.knows fed.counted fault (ap Err (bad_text c.in-Err.e fault (sym c.text_error_of-in-Err.ensures ∙ err_is is)))))

pub returns-in-Err-end_at-clause-still : goal.returns-in-Err-end_at-clause-still
returns-in-Err-end_at-clause-still g c = λ text fed fault is.
    let told = c.in-Err-end_at.ensures.bad fault (ap Err (bad_text c.in-Err-end_at.e fault (sym c.text_error_of.ensures ∙ err_is is))) in
    subst (λ n. StandsAt g.T.Records.knows g.T.Records.stays text n c.take_part.new.taker) (sym (ap (λ (f : Fault _). f.line) told.0))
    (stands_at_end g.T.Records.code g.T.Records.is_done g.T.Records.no_end g.T.Records.knows g.met.T.Shortened.faults_stay g.met.T.Shortened.knowledge_stays text (held c.args.window.now) c.args.taker.now c.args.from fed g.T.Records.stays c.take_part.new.taker c.in-Ok.line
    (rw c.deref.ensures.value at (c.in-Ok.ensures.taken fed.rows fed.knows fed.counted)))

pub returns-in-Err-clause-still : goal.returns-in-Err-clause-still
returns-in-Err-clause-still g c = λ text fed fault is.
    let err = ap Err (bad_text c.in-Err.e fault (sym c.text_error_of-in-Err.ensures ∙ err_is is)) in
    refused_in_rest g.T.Records.code g.T.Records.is_done g.T.Records.no_end g.T.Records.knows g.met.T.Shortened.faults_stay g.met.T.Shortened.knowledge_stays text (held c.args.window.now) c.args.taker.now c.args.from fed g.T.Records.stays c.take_part.new.taker fault
    (rw c.deref.ensures.value at (c.in-Err.ensures.bad fed.rows fed.knows fed.counted fault err)) (rw c.deref.ensures.value at (c.in-Err.ensures.still fed.rows fed.knows fed.counted fault err))
