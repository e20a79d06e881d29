use Rattle.rguard.specs.declared.kind.GuardKind.TheVariants.{Rise}
use Rattle.rguard.proofs.LentEditing.{ends_of_shows}
use Rattle.rguard.proofs.rise.SectionGuard+T+M+Rising+T.finish.Goals as goal

pub end-requires-after_bounds : goal.end-requires-after_bounds
end-requires-after_bounds g c κs within =
    let h = c.self.invariant in
    record { began = h.began; from = ends_of_shows g.T.Editable.after g.T.Editable.taken g.T.Editable.number h.began c.self.inside.section Rise h.from c.self.invariant.from.as_kind.0 }
