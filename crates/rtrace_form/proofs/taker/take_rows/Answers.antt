use Rattle.std.proofs.Common.{[], Err, sym, ap, subst, ◌∙◌}
use Rattle.csv.specs.Reading.{strip_bom}
use Rattle.rtrace_form.specs.Takers.{IsFaultBehind, IsRefusedAt}
use Rattle.rtrace_form.specs.declared.fault.Fault.{Fault}
use Rattle.rtrace_form.proofs.texts.Place.{at_start, at_more, at_fault, at_refused, at_end, may_take, bad_at, err_is}
use Rattle.rtrace_form.proofs.taker.take_rows.Goals as goal

pub loop-line-init : goal.loop-line-init
loop-line-init g c = λ bytes fresh earlier knows counted. ([], strip_bom bytes, at_start g.T.Records.code g.T.Records.is_done g.T.Records.no_end g.T.Records.knows earlier bytes c.args.reader.now c.args.taker.now c.args.from fresh knows counted)

pub take-requires : goal.take-requires
take-requires g c =
    let at = c.loop-line.invariant c.requires.fresh.0 c.requires.fresh.1 c.requires.behind.0 c.requires.behind.1 c.requires.behind.2 in
    may_take g.T.Records.code g.T.Records.is_done g.T.Records.no_end g.T.Records.knows c.requires.behind.0 c.requires.fresh.0 c.loop-line.reader c.loop-line.taker c.loop-line.line at.0 at.1 at.2 c.loop-line-test.true

pub loop-line-preserved : goal.loop-line-preserved
loop-line-preserved g c = λ bytes fresh earlier knows counted.
    let at = c.loop-line.invariant bytes fresh earlier knows counted in
    let read = rw c.if-not-found.false at (c.in-Ok.ensures.reads at.2.trim at.2.ready) in
    let taken = c.in_default-take.ensures.taken _ at.2.knows in
    at_more g.T.Records.code g.T.Records.is_done g.T.Records.no_end g.T.Records.knows earlier bytes c.loop-line.reader c.read_byte_record.new.self c.loop-line.taker c.take.new.self c.loop-line.line at.0 at.1 _ at.2 read
    (c.in-Ok.ensures.reads_on c.if-not-found.false) taken.0 taken.1

pub returns-then-not-found-clause-ended : goal.returns-then-not-found-clause-ended
returns-then-not-found-clause-ended g c = λ bytes fresh earlier knows counted.
    let at = c.loop-line.invariant bytes fresh earlier knows counted in
    let read = rw c.if-not-found.true at (c.in-Ok.ensures.reads at.2.trim at.2.ready) in
    at_end g.T.Records.code g.T.Records.is_done g.T.Records.no_end g.T.Records.knows earlier bytes c.loop-line.reader c.read_byte_record.new.self c.loop-line.taker c.loop-line.line at.0 at.1 _ at.2 c.loop-line-test.true read

pub returns-in-Err-clause-bad : goal.returns-in-Err-clause-bad
returns-in-Err-clause-bad g c = λ bytes fresh earlier knows counted fault is.
    let at = c.loop-line.invariant bytes fresh earlier knows counted in
    let read = rw c.if-not-found.false at (c.in-Ok.ensures.reads at.2.trim at.2.ready) in
    let told = bad_at c.loop-line.line c.in-Err.e fault (sym c.at.ensures ∙ err_is is) in
    let bad = c.in-Err.ensures.bad told.0 (ap Err told.1) _ at.2.knows in
    subst (λ (f : Fault _). IsFaultBehind g.T.Records.code g.T.Records.is_done g.T.Records.no_end earlier bytes f) (sym told.2)
    (at_fault g.T.Records.code g.T.Records.is_done g.T.Records.no_end g.T.Records.knows earlier bytes c.loop-line.reader c.read_byte_record.new.self c.loop-line.taker c.loop-line.line at.0 at.1 _ told.0 at.2 read bad)

pub returns-in-Err-clause-still : goal.returns-in-Err-clause-still
returns-in-Err-clause-still g c = λ bytes fresh earlier knows counted fault is.
    let at = c.loop-line.invariant bytes fresh earlier knows counted in
    let read = rw c.if-not-found.false at (c.in-Ok.ensures.reads at.2.trim at.2.ready) in
    let told = bad_at c.loop-line.line c.in-Err.e fault (sym c.at.ensures ∙ err_is is) in
    subst (λ n. IsRefusedAt g.T.Records.knows g.T.Records.stays earlier bytes n c.take.new.self) (sym (ap (λ (f : Fault _). f.line) told.2))
    (at_refused g.T.Records.code g.T.Records.is_done g.T.Records.no_end g.T.Records.knows g.T.Records.stays earlier bytes c.loop-line.reader c.read_byte_record.new.self c.loop-line.taker c.take.new.self c.loop-line.line at.0 at.1 _ at.2 read
    (c.in-Err.ensures.still told.0 (ap Err told.1)))
