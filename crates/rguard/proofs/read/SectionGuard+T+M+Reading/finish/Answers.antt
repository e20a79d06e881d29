use Rattle.rguard.specs.declared.kind.GuardKind.TheVariants.{Read}
use Rattle.rguard.proofs.LentEditing.{ends_of_shows}
use Rattle.rguard.proofs.read.SectionGuard+T+M+Reading.finish.Goals as goal

pub end-requires-after_bounds : goal.end-requires-after_bounds
end-requires-after_bounds g c κs within =
    let h = c.self.invariant in
    record { began = h.began; from = ends_of_shows g.T.Editable.after g.T.Editable.taken g.T.Editable.number h.began c.self.inside.section Read h.from c.self.invariant.from.as_kind }
