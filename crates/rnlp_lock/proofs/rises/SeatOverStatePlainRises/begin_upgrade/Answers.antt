use Rattle.std.proofs.Common.{ap}
use Rattle.rguard.specs.Looks.{fields_of}
use Rattle.rnlp_lock.specs.Laws.{HoldsOf}
use Rattle.rnlp_lock.specs.Seats.{LockFields}
use Rattle.rnlp_lock.proofs.Keeping.{back}
use Rattle.rnlp_lock.proofs.Risen.{begun_up_as}
use Rattle.rnlp_lock.proofs.rises.SeatOverStatePlainRises.begin_upgrade.Goals as goal

pub invariant_of-result : goal.invariant_of-result
invariant_of-result g c =
    begun_up_as g.T.Law.allows (HoldsOf g.T.Law.holds) g.T.Editable.after g.T.Editable.taken g.T.Editable.number c.self.inside.lock.now c.lock.inside.rnlp c.self.inside.pass c.args.set c.in-Ok.request c.in-Ok-Rise.guard c.in-Ok-Rise.field-0
    (ap fields_of c.in-Ok-Rise.field-0-is) c.in-Ok-Rise.ensures.ok (ap (λ (lock : LockFields). lock.site) c.lock.view_is) c.in-Ok.ensures.made c.seat.ensures.lawful c.seat.ensures.own c.self.invariant
    c.reads.result c.writes.result c.reads.ensures.value c.writes.ensures.value

pub invariant_of-result-in-Err-acquire : goal.invariant_of-result-in-Err-acquire
invariant_of-result-in-Err-acquire g c =
    back g.T.Law.allows (HoldsOf g.T.Law.holds) c.self.inside.lock.now c.self.inside.pass c.in-Err-acquire.pass c.in-Err-acquire.ensures.err c.in-Err-acquire.ensures.idle c.self.invariant
