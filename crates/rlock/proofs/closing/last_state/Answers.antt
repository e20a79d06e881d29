use Rattle.rlock.proofs.Shares.{ends}
use Rattle.rlock.proofs.closing.last_state.Goals as goal

pub unwrap-requires : goal.unwrap-requires
unwrap-requires g c = (ends g.S.Kept.opening g.S.Kept.entries g.S.Kept.number g.S.Kept.stays _ _ _ _ _ _ c.requires.table.1.1 c.requires.all c.close_with-closed.ensures.values.2 _ c.take-state.ensures.value).0

pub returns-clause-knows : goal.returns-clause-knows
returns-clause-knows g c = ((ends g.S.Kept.opening g.S.Kept.entries g.S.Kept.number g.S.Kept.stays _ _ _ _ _ _ c.requires.table.1.1 c.requires.all c.close_with-closed.ensures.values.2 _ c.take-state.ensures.value).1 _ c.unwrap.ensures).0

pub returns-clause-entries : goal.returns-clause-entries
returns-clause-entries g c = ((ends g.S.Kept.opening g.S.Kept.entries g.S.Kept.number g.S.Kept.stays _ _ _ _ _ _ c.requires.table.1.1 c.requires.all c.close_with-closed.ensures.values.2 _ c.take-state.ensures.value).1 _ c.unwrap.ensures).1
