use Rattle.std.proofs.Common.{◌≡◌, [], ◌∷◌, sym, subst, ◌∙◌}
use Rattle.rclaim.specs.declared.event.Event.TheVariants.{Ask}
use Rattle.rguard.specs.LentSections.{guarded}
use Rattle.rguard.specs.declared.kind.GuardKind.TheVariants as kinds
use Rattle.rguard.specs.Guards.{GuardFields, IsPartOf, KeepsValues, KeepsHolding}
use Rattle.rguard.specs.Seats.{Goes, ComesBack, bare}
use Rattle.rguard.proofs.Going.{goes_on}
use Rattle.rguard.proofs.nest.SectionGuard+T+M+Nesting.ask.Goals as goal

pub ask-requires-clause-part : goal.ask-requires-clause-part
ask-requires-clause-part g c κs within =
    subst (λ (x : GuardFields g.row.T.Denot g.row.T-Edit.Denot). IsPartOf x.seat c.args.set) (sym c.self.view_is) c.requires

pub wait-section-requires-after_bounds : goal.wait-section-requires-after_bounds
wait-section-requires-after_bounds g c κs within = (kinds.Nest, c.in-Ok.ensures.waits)

pub invariant_of-result : goal.invariant_of-result
invariant_of-result g c = c.wait-section.ensures.holds kinds.Nest c.in-Ok.ensures.waits

pub returns-in-Ok-clause-same : goal.returns-in-Ok-clause-same
returns-in-Ok-clause-same g c =
    subst (λ (x : GuardFields g.row.T.Denot g.row.T-Edit.Denot). (c.wait-section.result.site ≡ x.site) × (c.wait-section.result.acts ≡ x.acts)) c.self.view_is
    (c.wait-section.ensures.same.0 ∙ c.in-Ok.ensures.same.0, c.wait-section.ensures.same.1 ∙ c.in-Ok.ensures.same.1)

pub returns-in-Ok-clause-goes : goal.returns-in-Ok-clause-goes
returns-in-Ok-clause-goes g c =
    subst (λ (x : GuardFields g.row.T.Denot g.row.T-Edit.Denot). Goes x.seat (bare (Ask x.seat.number c.args.set) ∷ []) c.wait-section.result.seat) c.self.view_is
    (goes_on c.self.inside.section.seat c.in-Ok.section.seat c.wait-section.result.seat (bare (Ask c.self.inside.section.seat.number c.args.set) ∷ []) [] c.in-Ok.ensures.goes c.wait-section.ensures.goes)

pub returns-in-Err-clause-err : goal.returns-in-Err-clause-err
returns-in-Err-clause-err g c =
    subst (λ (x : GuardFields g.row.T.Denot g.row.T-Edit.Denot). (c.in-Err.section.site ≡ x.site) × (c.in-Err.section.acts ≡ x.acts) × Goes x.seat [] c.in-Err.section.seat) c.self.view_is c.in-Err.ensures.err

pub returns-in-Err-clause-turn_err : goal.returns-in-Err-clause-turn_err
returns-in-Err-clause-turn_err g c =
    subst (λ (x : GuardFields g.row.T.Denot g.row.T-Edit.Denot). ComesBack x.seat c.in-Err.section.seat) c.self.view_is c.in-Err.ensures.turn_err

pub returns-in-Err-clause-values : goal.returns-in-Err-clause-values
returns-in-Err-clause-values g c =
    subst (λ (x : GuardFields g.row.T.Denot g.row.T-Edit.Denot). KeepsValues g.T.Editable.after x (guarded c.in-Err.section)) c.self.view_is c.in-Err.ensures.values

pub returns-in-Err-clause-holding : goal.returns-in-Err-clause-holding
returns-in-Err-clause-holding g c =
    subst (λ (x : GuardFields g.row.T.Denot g.row.T-Edit.Denot). KeepsHolding x.seat c.in-Err.section.seat) c.self.view_is c.in-Err.ensures.holding
