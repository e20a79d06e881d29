use Rattle.std.proofs.Common.{[], ◌∷◌, subst}
use Rattle.rclaim.specs.declared.event.Event.TheVariants.{Finish}
use Rattle.rguard.specs.LentSections.{SectionFields}
use Rattle.rguard.specs.Guards.{GuardFields}
use Rattle.rguard.specs.Seats.{Goes, IsOneTurn}
use Rattle.rguard.proofs.section_guard.SectionGuard.finish.Goals as goal

pub end-requires-after_bounds : goal.end-requires-after_bounds
end-requires-after_bounds g c κs within = c.in-Ok.ensures.ends

pub returns-in-Ok-clause-goes : goal.returns-in-Ok-clause-goes
returns-in-Ok-clause-goes g c =
    subst (λ (x : GuardFields g.row.T.Denot g.row.T-Edit.Denot). Goes x.seat (record { event = Finish x.seat.number; acts = x.acts } ∷ []) c.end.result) c.self.view_is
    (subst (λ (s : SectionFields g.row.T.Denot g.row.T-Edit.Denot). Goes s.seat (record { event = Finish s.seat.number; acts = s.acts } ∷ []) c.end.result) c.in-Ok.ensures.same c.end.ensures.goes)

pub returns-in-Ok-clause-turn : goal.returns-in-Ok-clause-turn
returns-in-Ok-clause-turn g c =
    subst (λ (x : GuardFields g.row.T.Denot g.row.T-Edit.Denot). IsOneTurn x.seat (record { event = Finish x.seat.number; acts = x.acts } ∷ []) c.end.result) c.self.view_is
    (subst (λ (s : SectionFields g.row.T.Denot g.row.T-Edit.Denot). IsOneTurn s.seat (record { event = Finish s.seat.number; acts = s.acts } ∷ []) c.end.result) c.in-Ok.ensures.same c.end.ensures.turn)
