use Rattle.std.proofs.Common.{Err, true, ap}
use Rattle.rtrace_form.proofs.texts.Lists.{list_fault}
use Rattle.rtrace_form.proofs.texts.Place.{err_is}
use Rattle.rtrace_write.proofs.Writing.{always_on_ok}
use Rattle.rtrace.proofs.Errors.{none_of_source}
use Rattle.rtrace.proofs.Results.{if_ok, no_read_fault, not_too_long}
use Rattle.rtrace.proofs.Whole.{no_bound_refused}
use Rattle.rtrace.proofs.count.count_stream.Goals as goal

pub counted-requires : goal.counted-requires
counted-requires g c = let h = c.in-Ok.ensures.taken in (h.0, h.2)

pub returns-in-Ok-clause-right : goal.returns-in-Ok-clause-right
returns-in-Ok-clause-right g c = let h = c.in-Ok.ensures.taken in if_ok c.counted.result _ _ c.counted.ensures.right (λ counts is. (h.0, h.1, is h.0 h.2))

pub returns-in-Ok-clause-bad : goal.returns-in-Ok-clause-bad
returns-in-Ok-clause-bad g c = λ fault is. let h = c.in-Ok.ensures.taken in (h.0, h.1, c.counted.ensures.bad fault is h.0 h.2)

pub returns-in-Ok-clause-fault : goal.returns-in-Ok-clause-fault
returns-in-Ok-clause-fault g c = λ is. absurd (no_read_fault c.counted.result c.counted.ensures.text is)

pub returns-in-Ok-clause-too_long : goal.returns-in-Ok-clause-too_long
returns-in-Ok-clause-too_long g c = λ is. absurd (not_too_long c.counted.result c.counted.ensures.text is)

pub returns-in-Err-clause-bad : goal.returns-in-Err-clause-bad
returns-in-Err-clause-bad g c = λ fault is.
    let h = c.in-Err.ensures.bad fault (ap Err (err_is is)) in
    (h.0, h.1, list_fault true h.0 fault h.2)

pub returns-in-Ok-clause-knows : goal.returns-in-Ok-clause-knows
returns-in-Ok-clause-knows g c = always_on_ok c.counted.result c.in-Ok.ensures.taken

pub returns-in-Ok-clause-still : goal.returns-in-Ok-clause-still
returns-in-Ok-clause-still g c = λ fault is other. absurd (other (c.counted.ensures.bound fault is))

pub returns-in-Err-clause-still : goal.returns-in-Err-clause-still
returns-in-Err-clause-still g c = λ fault is other. c.in-Err.ensures.still fault (ap Err (err_is is))

pub returns-in-Ok-clause-judged : goal.returns-in-Ok-clause-judged
returns-in-Ok-clause-judged g c = λ fault is wrong. c.in-Ok.ensures.taken

pub returns-in-Err-clause-judged : goal.returns-in-Err-clause-judged
returns-in-Err-clause-judged g c = λ fault is wrong.
    let h = c.in-Err.ensures.bad fault (ap Err (err_is is)) in
    absurd (no_bound_refused h.0 fault h.2 wrong)

pub returns-in-Ok-clause-broken : goal.returns-in-Ok-clause-broken
returns-in-Ok-clause-broken g c = none_of_source _ c.counted.result c.counted.ensures.text

pub returns-in-Err-clause-broken : goal.returns-in-Err-clause-broken
returns-in-Err-clause-broken g c = c.in-Err.ensures.broken
