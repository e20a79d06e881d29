use Rattle.std.proofs.Common.{List, ℕ, Err, sym, ap, subst}
use Rattle.rtrace_form.specs.Takers.{HasTakenPart, IsFaultBehind, IsRefusedAt}
use Rattle.rtrace_form.proofs.texts.Place.{err_is}
use Rattle.rtrace.specs.Feeding.{IsFed}
use Rattle.rtrace.specs.Windows.{held}
use Rattle.rtrace.proofs.Feeding.{fed_lines, fed_shorter, fault_in_lines, refused_in_lines}
use Rattle.rtrace.proofs.Windows.{take_within}
use Rattle.rtrace.proofs.feed.take_lines.Goals as goal

pub returns-in-Ok-clause-fed : goal.returns-in-Ok-clause-fed
returns-in-Ok-clause-fed g c = λ text fed.
    fed_shorter g.T.Records.code g.T.Records.is_done g.T.Records.no_end g.T.Records.knows text (held c.args.window.now) (held c.shorten.new.self) c.args.taker.now c.args.from fed c.shorten.ensures.held

pub returns-in-Ok-take_part-clause-fed : goal.returns-in-Ok-take_part-clause-fed
returns-in-Ok-take_part-clause-fed g c = λ text fed.
    let front = take_within c.in-Some.cut c.args.window.now.filled c.args.window.now.bytes.items c.in-Some.ensures.within in
    subst (λ (h : List ℕ). IsFed g.T.Records.code g.T.Records.knows text h c.take_part.new.taker c.in-Ok-take_part.line) (sym c.cut_off.ensures.held)
    (fed_lines g.T.Records.code g.T.Records.is_done g.T.Records.no_end g.T.Records.knows g.met.T.Shortened.faults_stay g.met.T.Shortened.knowledge_stays text (held c.args.window.now) c.in-Some.cut c.args.taker.now c.args.from fed c.in-Some.ensures.cut
    c.take_part.new.taker c.in-Ok-take_part.line
    (subst (λ (xs : List ℕ). HasTakenPart g.T.Records.code g.T.Records.knows fed.rows xs c.take_part.new.taker c.in-Ok-take_part.line) (sym front) (rw c.deref.ensures.value at (c.in-Ok-take_part.ensures.taken fed.rows fed.knows fed.counted))))

pub returns-in-Err-take_part-clause-bad : goal.returns-in-Err-take_part-clause-bad
returns-in-Err-take_part-clause-bad g c = λ text fed fault is more.
    let front = take_within c.in-Some.cut c.args.window.now.filled c.args.window.now.bytes.items c.in-Some.ensures.within in
    fault_in_lines g.T.Records.code g.T.Records.is_done g.T.Records.no_end g.T.Records.knows g.met.T.Shortened.faults_stay g.met.T.Shortened.knowledge_stays text (held c.args.window.now) c.in-Some.cut c.args.taker.now c.args.from fed c.in-Some.ensures.cut
    fault
    (subst (λ (xs : List ℕ). IsFaultBehind g.T.Records.code g.T.Records.is_done g.T.Records.no_end fed.rows xs fault) (sym front) (rw c.deref.ensures.value at (c.in-Err-take_part.ensures.bad fed.rows fed.knows fed.counted fault (ap Err (err_is is)))))
    more

pub returns-in-Err-take_part-clause-still : goal.returns-in-Err-take_part-clause-still
returns-in-Err-take_part-clause-still g c = λ text fed fault is more.
    let front = take_within c.in-Some.cut c.args.window.now.filled c.args.window.now.bytes.items c.in-Some.ensures.within in
    refused_in_lines g.T.Records.code g.T.Records.is_done g.T.Records.no_end g.T.Records.knows g.met.T.Shortened.faults_stay g.met.T.Shortened.knowledge_stays text (held c.args.window.now) c.in-Some.cut c.args.taker.now c.args.from fed c.in-Some.ensures.cut g.T.Records.stays c.take_part.new.taker fault
    (subst (λ (xs : List ℕ). IsFaultBehind g.T.Records.code g.T.Records.is_done g.T.Records.no_end fed.rows xs fault) (sym front) (rw c.deref.ensures.value at (c.in-Err-take_part.ensures.bad fed.rows fed.knows fed.counted fault (ap Err (err_is is)))))
    (subst (λ (xs : List ℕ). IsRefusedAt g.T.Records.knows g.T.Records.stays fed.rows xs fault.line c.take_part.new.taker) (sym front) (rw c.deref.ensures.value at (c.in-Err-take_part.ensures.still fed.rows fed.knows fed.counted fault (ap Err (err_is is)))))
    more
