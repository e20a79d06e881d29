use Rattle.std.proofs.Common.{◌≡◌, ◌-◌}
use Rattle.rtrace.proofs.Gaining.{IsDraining}
use Rattle.rtrace.proofs.window.Window.drain.Given as goal

abbrev pub invariant-loop-self : goal.invariant-loop-self
invariant-loop-self g l = IsDraining (g.S.Source.left l.fn.source) (g.S.Source.left l.source) l.fn.self l.self × (g.S.Source.faults l.source ≡ g.S.Source.faults l.fn.source)

abbrev pub decreases-loop-self : goal.decreases-loop-self
decreases-loop-self g l = l.fn.self.limit - l.self.taken
