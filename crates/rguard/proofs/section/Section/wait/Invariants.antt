use Rattle.std.proofs.Common.{◌≡◌, []}
use Rattle.rguard.specs.declared.kind.GuardKind.{GuardKind}
use Rattle.rguard.specs.Seats.{Goes}
use Rattle.rguard.specs.LentSections.{Waits}
use Rattle.rguard.proofs.section.Section.wait.Given as goal

abbrev pub invariant-loop : goal.invariant-loop
invariant-loop g l =
    ((kind : GuardKind) → Waits g.T.Editable.after g.T.Editable.taken g.T.Editable.number kind l.fn.self → Waits g.T.Editable.after g.T.Editable.taken g.T.Editable.number kind l.waiting)
    × (l.waiting.site ≡ l.fn.self.site) × (l.waiting.acts ≡ l.fn.self.acts) × Goes l.fn.self.seat [] l.waiting.seat
