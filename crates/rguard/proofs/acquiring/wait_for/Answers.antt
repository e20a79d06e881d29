use Rattle.std.proofs.Common.{true, [], sym, ap, subst, ◌∙◌}
use Rattle.rguard.specs.Awaiting.{awaited_kind}
use Rattle.rguard.specs.Guards.{GuardFields, WaitFields, IsReady}
use Rattle.rguard.specs.Looks.{HasAwaited}
use Rattle.rguard.specs.Seats.{Goes}
use Rattle.rguard.proofs.acquiring.wait_for.Goals as goal

pub wait-section-requires-after_bounds : goal.wait-section-requires-after_bounds
wait-section-requires-after_bounds g c κs within = (awaited_kind c.pending.inside.awaited, c.pending.invariant)

pub guard_of-requires-after_bounds : goal.guard_of-requires-after_bounds
guard_of-requires-after_bounds g c κs within = c.wait-section.ensures.holds (awaited_kind c.pending.inside.awaited) c.pending.invariant

pub returns : goal.returns
returns g c =
    let fields = c.guard_of.ensures.fields in
    subst (λ (w : WaitFields g.row.T.Denot g.row.T-Edit.Denot). HasAwaited w c.guard_of.result) c.pending.view_is
    (record {
      awaited = record {
        site = ap (λ (x : GuardFields g.row.T.Denot g.row.T-Edit.Denot). x.site) fields ∙ c.wait-section.ensures.same.0;
        acts = ap (λ (x : GuardFields g.row.T.Denot g.row.T-Edit.Denot). x.acts) fields ∙ c.wait-section.ensures.same.1;
        kind = c.guard_of.ensures.kind;
      };
      goes = subst (λ (x : GuardFields g.row.T.Denot g.row.T-Edit.Denot). Goes c.pending.inside.section.seat [] x.seat) (sym fields) c.wait-section.ensures.goes;
      ready = subst (λ (x : GuardFields g.row.T.Denot g.row.T-Edit.Denot). IsReady x.seat true) (sym fields) c.wait-section.ensures.ready;
    })
