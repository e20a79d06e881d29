use Rattle.std.proofs.Common.{subst}
use Rattle.rguard.specs.Awaiting.{awaited_kind}
use Rattle.rguard.specs.Guards.{WaitFields, HasSeenLawful, HasSeenOwn}
use Rattle.rguard.proofs.Seeing.{lawful_waited, own_waited}
use Rattle.rguard.proofs.pending.Pending.seat.Goals as goal

pub returns-clause-lawful : goal.returns-clause-lawful
returns-clause-lawful g c =
    subst (λ (x : WaitFields g.row.T.Denot g.row.T-Edit.Denot). HasSeenLawful g.T.Editable.after g.T.Editable.taken g.T.Editable.number x.seat) c.self.view_is
    (lawful_waited g.T.Editable.after g.T.Editable.taken g.T.Editable.number (awaited_kind c.self.inside.awaited) c.self.inside.section c.self.invariant)

pub returns-clause-own : goal.returns-clause-own
returns-clause-own g c =
    subst (λ (x : WaitFields g.row.T.Denot g.row.T-Edit.Denot). HasSeenOwn x.seat) c.self.view_is
    (own_waited g.T.Editable.after g.T.Editable.taken g.T.Editable.number (awaited_kind c.self.inside.awaited) c.self.inside.section c.self.invariant)
