use Rattle.std.proofs.Common.{[], Err, refl, sym, ap, subst}
use Rattle.rtrace_form.specs.Takers.{IsFaultOf, StandsAt}
use Rattle.rtrace_form.specs.declared.fault.Fault.{Fault}
use Rattle.rtrace_form.proofs.texts.Place.{fault_of_all, taken_ok, none_behind, text_refused, text_ended, err_is}
use Rattle.rtrace_form.proofs.taker.take_text.Goals as goal

pub take_part-requires : goal.take_part-requires
take_part-requires g c = ([], c.requires, refl)

pub returns-in-Ok-clause-taken : goal.returns-in-Ok-clause-taken
returns-in-Ok-clause-taken g c =
    taken_ok g.T.Records.code g.T.Records.is_done g.T.Records.no_end g.T.Records.knows c.end_at.result c.args.bytes.now c.take_part.new.taker c.in-Ok.line
    (c.in-Ok.ensures.taken [] c.requires refl) c.end_at.ensures.taken

pub returns-in-Ok-clause-bad : goal.returns-in-Ok-clause-bad
returns-in-Ok-clause-bad g c = λ fault is.
    let told = c.end_at.ensures.bad fault is in
    subst (λ (f : Fault _). IsFaultOf g.T.Records.code g.T.Records.is_done g.T.Records.no_end c.args.bytes.now f) (sym told.0)
    (none_behind g.T.Records.code g.T.Records.is_done g.T.Records.no_end g.T.Records.knows c.args.bytes.now c.take_part.new.taker c.in-Ok.line
    (c.in-Ok.ensures.taken [] c.requires refl) told.1)

pub returns-clause-bad : goal.returns-clause-bad
returns-clause-bad g c = λ fault is.
    fault_of_all g.T.Records.code g.T.Records.is_done g.T.Records.no_end g.T.Records.knows c.args.bytes.now fault (c.in-Err.ensures.bad [] c.requires refl fault (ap Err (err_is is)))

pub returns-in-Ok-clause-still : goal.returns-in-Ok-clause-still
returns-in-Ok-clause-still g c = λ fault is.
    let told = c.end_at.ensures.bad fault is in
    subst (λ (f : Fault _). StandsAt g.T.Records.knows g.T.Records.stays c.args.bytes.now f.line c.take_part.new.taker) (sym told.0)
    (text_ended g.T.Records.code g.T.Records.is_done g.T.Records.no_end g.T.Records.knows g.T.Records.stays c.args.bytes.now c.in-Ok.line c.take_part.new.taker (c.in-Ok.ensures.taken [] c.requires refl))

pub returns-clause-still : goal.returns-clause-still
returns-clause-still g c = λ fault is.
    text_refused g.T.Records.code g.T.Records.is_done g.T.Records.no_end g.T.Records.knows g.T.Records.stays c.args.bytes.now fault.line c.take_part.new.taker
    (c.in-Err.ensures.still [] c.requires refl fault (ap Err (err_is is)))
