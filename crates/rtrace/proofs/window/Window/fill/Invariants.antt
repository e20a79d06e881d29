use Rattle.std.proofs.Common.{◌≡◌, ◌-◌, length}
use Rattle.rtrace.proofs.Gaining.{IsFilling}
use Rattle.rtrace.proofs.window.Window.fill.Given as goal

abbrev pub invariant-loop-self : goal.invariant-loop-self
invariant-loop-self g l = IsFilling (g.S.Source.left l.fn.source) (g.S.Source.left l.source) l.fn.self l.self × (g.S.Source.faults l.source ≡ g.S.Source.faults l.fn.source)

abbrev pub decreases-loop-self : goal.decreases-loop-self
decreases-loop-self g l = length l.self.bytes.items - l.self.filled
