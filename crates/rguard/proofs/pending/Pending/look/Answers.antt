use Rattle.rguard.specs.Awaiting.{awaited_kind}
use Rattle.rguard.proofs.pending.Pending.look.Goals as goal

pub guard_of-requires-after_bounds : goal.guard_of-requires-after_bounds
guard_of-requires-after_bounds g c κs within = c.in-Ok.ensures.holds (awaited_kind c.self.inside.awaited) c.self.invariant

pub invariant_of-result : goal.invariant_of-result
invariant_of-result g c = c.in-Err.ensures.waits (awaited_kind c.self.inside.awaited) c.self.invariant
