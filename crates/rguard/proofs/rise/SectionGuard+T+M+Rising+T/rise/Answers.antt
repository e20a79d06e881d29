use Rattle.std.proofs.Common.{[], ◌∷◌, subst, ◌∙◌, ap}
use Rattle.rclaim.specs.declared.event.Event.TheVariants.{Rise}
use Rattle.rguard.specs.declared.kind.GuardKind.TheVariants as kinds
use Rattle.rguard.specs.Guards.{GuardFields}
use Rattle.rguard.specs.Seats.{Goes}
use Rattle.rguard.proofs.Going.{goes_on}
use Rattle.rguard.proofs.rise.SectionGuard+T+M+Rising+T.rise.Goals as goal

pub wait-section-requires-after_bounds : goal.wait-section-requires-after_bounds
wait-section-requires-after_bounds g c κs within = (kinds.Write, c.rise-waiting.ensures.waits)

pub invariant_of-result : goal.invariant_of-result
invariant_of-result g c = c.wait-section.ensures.holds kinds.Write c.rise-waiting.ensures.waits

pub returns-clause-site : goal.returns-clause-site
returns-clause-site g c = c.wait-section.ensures.same.0 ∙ c.rise-waiting.ensures.site ∙ ap (λ (x : GuardFields g.row.T.Denot g.row.T-Edit.Denot). x.site) c.self.view_is

pub returns-clause-acts : goal.returns-clause-acts
returns-clause-acts g c = c.wait-section.ensures.same.1 ∙ c.rise-waiting.ensures.acts

pub returns-clause-goes : goal.returns-clause-goes
returns-clause-goes g c =
    subst (λ (x : GuardFields g.row.T.Denot g.row.T-Edit.Denot). Goes x.seat (record { event = Rise x.seat.number; acts = x.acts } ∷ []) c.wait-section.result.seat) c.self.view_is
    (goes_on c.self.inside.section.seat c.rise-waiting.result.seat c.wait-section.result.seat (record { event = Rise c.self.inside.section.seat.number; acts = c.self.inside.section.acts } ∷ []) [] c.rise-waiting.ensures.goes c.wait-section.ensures.goes)
