use Rattle.std.proofs.Common.{inl, ap, ◌∙◌}
use Rattle.rnlp_lock.specs.Laws.{HoldsOf}
use Rattle.rnlp_lock.specs.Works.{WorkFields}
use Rattle.rnlp_lock.proofs.Keeping.{rests_again}
use Rattle.rnlp_lock.proofs.rises.SeatOverStatePlainRises.end_upgrade.Goals as goal

pub invariant_of-result : goal.invariant_of-result
invariant_of-result g c =
    rests_again g.T.Law.allows (HoldsOf g.T.Law.holds) _ c.finish-pass.result _ c.work.invariant.1 c.finish-pass.ensures.goes c.finish-pass.ensures.idle
    (inl (ap (λ (w : WorkFields g.row.T.Denot g.row.T-Edit.Denot). w.acts) c.work.view_is ∙ c.requires))
