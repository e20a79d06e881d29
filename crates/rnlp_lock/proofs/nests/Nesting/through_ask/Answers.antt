use Rattle.std.proofs.Common.{◌∙◌}
use Rattle.rnlp_lock.specs.Laws.{HoldsOf}
use Rattle.rnlp_lock.specs.Nested.{nested_by}
use Rattle.rnlp_lock.proofs.Asks.{asked_more, asked_no_more}
use Rattle.rnlp_lock.proofs.nests.Nesting.through_ask.Goals as goal

pub invariant_of-nest : goal.invariant_of-nest
invariant_of-nest g c = (
  c.in-Ok.ensures.same.0 ∙ c.self.invariant.0,
  asked_more g.T.Law.allows (HoldsOf g.T.Law.holds) g.T.Editable.after g.T.Editable.taken g.T.Editable.number c.self.inside.lock.now c.self.inside.start.value c.self.inside.guard.seat c.in-Ok.guard.seat c.self.inside.reads
      c.self.inside.writes c.self.inside.first c.self.inside.granted c.args.part c.self.inside.guard.acts c.in-Ok.guard.acts c.self.invariant.1 c.in-Ok.ensures.goes c.seat.ensures.lawful c.seat.ensures.own c.in-Ok.ensures.ready c.union.result
      c.union.ensures,
)

pub invariant_of-nest-in-Err : goal.invariant_of-nest-in-Err
invariant_of-nest-in-Err g c = (
  c.in-Err.ensures.err.0 ∙ c.self.invariant.0,
  asked_no_more g.T.Law.allows (HoldsOf g.T.Law.holds) g.T.Editable.after g.T.Editable.taken g.T.Editable.number c.self.inside.lock.now c.self.inside.start.value c.self.inside.guard.seat c.in-Err.guard.seat
      (nested_by c.self.inside.reads c.self.inside.writes c.self.inside.first) c.self.inside.granted c.self.inside.guard.acts c.in-Err.guard.acts c.self.invariant.1 c.in-Err.ensures.err.2 c.in-Err.ensures.holding,
)
