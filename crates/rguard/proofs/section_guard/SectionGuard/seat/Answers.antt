use Rattle.std.proofs.Common.{subst}
use Rattle.rguard.specs.Guards.{GuardFields, HasSeenLawful, HasSeenOwn}
use Rattle.rguard.proofs.Seeing.{lawful_held, own_held}
use Rattle.rguard.proofs.section_guard.SectionGuard.seat.Goals as goal

pub returns-clause-lawful : goal.returns-clause-lawful
returns-clause-lawful g c =
    subst (λ (x : GuardFields g.row.T.Denot g.row.T-Edit.Denot). HasSeenLawful g.T.Editable.after g.T.Editable.taken g.T.Editable.number x.seat) c.self.view_is
    (lawful_held g.T.Editable.after g.T.Editable.taken g.T.Editable.number g.K.Guarding.kind c.self.inside.section c.self.invariant)

pub returns-clause-own : goal.returns-clause-own
returns-clause-own g c =
    subst (λ (x : GuardFields g.row.T.Denot g.row.T-Edit.Denot). HasSeenOwn x.seat) c.self.view_is
    (own_held g.T.Editable.after g.T.Editable.taken g.T.Editable.number g.K.Guarding.kind c.self.inside.section c.self.invariant)
