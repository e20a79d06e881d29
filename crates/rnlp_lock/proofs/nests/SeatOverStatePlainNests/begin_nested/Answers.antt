use Rattle.std.proofs.Common.{◌≡◌, refl, sym, ap, ◌∙◌}
use Rattle.rclaim.specs.Requests.{RequestFields}
use Rattle.rguard.specs.Looks.{fields_of}
use Rattle.rnlp_lock.specs.Asking.{nested_of}
use Rattle.rnlp_lock.specs.Laws.{HoldsOf}
use Rattle.rnlp_lock.specs.Nested.{nested_by}
use Rattle.rnlp_lock.specs.Seats.{LockFields}
use Rattle.rnlp_lock.proofs.Asks.{begun_nest}
use Rattle.rnlp_lock.proofs.Keeping.{back}
use Rattle.rnlp_lock.proofs.nests.SeatOverStatePlainNests.begin_nested.Goals as goal

pub invariant_of-result : goal.invariant_of-result
invariant_of-result g c =
    let asked : RequestFields = nested_of c.args.reads c.args.writes c.args.first in
    let reads_are : c.reads.result ≡ asked.reads = c.reads.ensures.value ∙ ap (λ (r : RequestFields). r.reads) c.in-Ok.ensures.made in
    let writes_are : c.writes.result ≡ asked.writes = c.writes.ensures.value ∙ ap (λ (r : RequestFields). r.writes) c.in-Ok.ensures.made in
    begun_nest g.T.Law.allows (HoldsOf g.T.Law.holds) g.T.Editable.after g.T.Editable.taken g.T.Editable.number c.self.inside.lock.now c.lock.inside.rnlp c.self.inside.pass c.in-Ok.request c.in-Ok-Nest.guard c.in-Ok-Nest.field-0
    c.of-start.result.value c.reads.result c.writes.result c.args.first c.args.first (ap fields_of c.in-Ok-Nest.field-0-is) c.in-Ok-Nest.ensures.ok (ap (λ (lock : LockFields). lock.site) c.lock.view_is) c.of-start.ensures
    (c.in-Ok.ensures.made ∙ (λ i. nested_by (sym reads_are i) (sym writes_are i) c.args.first)) refl c.seat.ensures.lawful c.seat.ensures.own c.self.invariant

pub invariant_of-result-in-Err-acquire : goal.invariant_of-result-in-Err-acquire
invariant_of-result-in-Err-acquire g c =
    back g.T.Law.allows (HoldsOf g.T.Law.holds) c.self.inside.lock.now c.self.inside.pass c.in-Err-acquire.pass c.in-Err-acquire.ensures.err c.in-Err-acquire.ensures.idle c.self.invariant
