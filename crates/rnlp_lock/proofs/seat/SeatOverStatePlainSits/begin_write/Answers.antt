use Rattle.std.proofs.Common.{ap, ◌∙◌}
use Rattle.rclaim.specs.Requests.{RequestFields}
use Rattle.rguard.specs.Looks.{fields_of}
use Rattle.rguard.proofs.Having.{is_plain}
use Rattle.rnlp_lock.specs.Laws.{HoldsOf}
use Rattle.rnlp_lock.specs.Seats.{LockFields}
use Rattle.rnlp_lock.proofs.Keeping.{back, begun_as, plain_write}
use Rattle.rnlp_lock.proofs.seat.SeatOverStatePlainSits.begin_write.Goals as goal

pub invariant_of-result : goal.invariant_of-result
invariant_of-result g c =
    begun_as g.T.Law.allows (HoldsOf g.T.Law.holds) c.self.inside.lock.now g.T.Editable.after g.T.Editable.taken g.T.Editable.number c.lock.inside.rnlp c.self.inside.pass c.in-Ok.request c.in-Ok-Write.guard c.in-Ok-Write.field-0
    (ap fields_of c.in-Ok-Write.field-0-is) c.in-Ok-Write.ensures.ok (ap (λ (lock : LockFields). lock.site) c.lock.view_is) (ap (λ (r : RequestFields). is_plain r.kind) c.in-Ok.ensures.made ∙ plain_write c.args.kind c.args.reads c.args.writes c.requires) c.seat.ensures.lawful c.seat.ensures.own c.self.invariant
    c.reads.result c.writes.result c.reads.ensures.value c.writes.ensures.value

pub invariant_of-result-in-Err-acquire : goal.invariant_of-result-in-Err-acquire
invariant_of-result-in-Err-acquire g c =
    back g.T.Law.allows (HoldsOf g.T.Law.holds) c.self.inside.lock.now c.self.inside.pass c.in-Err-acquire.pass c.in-Err-acquire.ensures.err c.in-Err-acquire.ensures.idle c.self.invariant
