use Rattle.std.proofs.Common.{◌≡◌, [], refl, sym, subst}
use Rattle.rguard.specs.Guards.{GuardFields, HasAsked, IsPartOf, KeepsValues, KeepsHolding}
use Rattle.rguard.specs.Seats.{Goes, ComesBack}
use Rattle.rguard.specs.LentSections.{guarded}
use Rattle.rguard.specs.Awaiting.{waiting}
use Rattle.rguard.specs.declared.kind.GuardKind.TheVariants.{Nest}
use Rattle.rguard.proofs.nest.SectionGuard+T+M+Nesting.begin_ask.Goals as goal

pub ask-requires-clause-part : goal.ask-requires-clause-part
ask-requires-clause-part g c κs within =
    subst (λ (x : GuardFields g.row.T.Denot g.row.T-Edit.Denot). IsPartOf x.seat c.args.set) (sym c.self.view_is) c.requires

pub returns-in-Ok-clause-ok : goal.returns-in-Ok-clause-ok
returns-in-Ok-clause-ok g c =
    subst (λ (x : GuardFields g.row.T.Denot g.row.T-Edit.Denot). HasAsked x c.args.set (waiting c.in-Ok.section Nest)) c.self.view_is
    (record { site_is = c.in-Ok.ensures.same.0; kind_is = refl; acts_are = c.in-Ok.ensures.same.1; goes = c.in-Ok.ensures.goes; turn = c.in-Ok.ensures.turn })

pub returns-in-Err-clause-err : goal.returns-in-Err-clause-err
returns-in-Err-clause-err g c =
    subst (λ (x : GuardFields g.row.T.Denot g.row.T-Edit.Denot). (c.in-Err.section.site ≡ x.site) × (c.in-Err.section.acts ≡ x.acts) × Goes x.seat [] c.in-Err.section.seat) c.self.view_is c.in-Err.ensures.err

pub returns-in-Err-clause-turn_err : goal.returns-in-Err-clause-turn_err
returns-in-Err-clause-turn_err g c =
    subst (λ (x : GuardFields g.row.T.Denot g.row.T-Edit.Denot). ComesBack x.seat c.in-Err.section.seat) c.self.view_is c.in-Err.ensures.turn_err

pub returns-in-Err-clause-values : goal.returns-in-Err-clause-values
returns-in-Err-clause-values g c =
    subst (λ (x : GuardFields g.row.T.Denot g.row.T-Edit.Denot). KeepsValues g.T.Editable.after x (guarded c.in-Err.section)) c.self.view_is c.in-Err.ensures.values

pub returns-in-Err-clause-holding : goal.returns-in-Err-clause-holding
returns-in-Err-clause-holding g c =
    subst (λ (x : GuardFields g.row.T.Denot g.row.T-Edit.Denot). KeepsHolding x.seat c.in-Err.section.seat) c.self.view_is c.in-Err.ensures.holding
