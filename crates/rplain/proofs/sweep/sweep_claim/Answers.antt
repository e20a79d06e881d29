use Rattle.std.proofs.Common.{get_or, ap, ◌∙◌}
use Rattle.std.proofs.Math.ListN.{set}
use Rattle.std.proofs.lemmas.List.{get_or_default}
use Rattle.rmodel.specs.Settling.{with_status}
use Rattle.rplain.proofs.settling.SweepSteps.{status_swept}
use Rattle.rplain.proofs.sweep.sweep_claim.Goals as goal

pub returns-clause-claims : goal.returns-clause-claims
returns-clause-claims c = λ d.
    let xs = c.args.claims.now in
    let i = c.args.i in
    ap (set xs i)
    ((λ k. with_status (get_or_default xs i c.index-claims-i-2.result d c.requires.place k) (c.swept_at-now.ensures d k).status)
    ∙ status_swept c.args.left.now c.args.seen xs (get_or xs i d))
