use Rattle.std.proofs.Common.{refl}
use Rattle.std.proofs.lemmas.Result.{on_ok_weaker}
use Rattle.rtrace.proofs.Knowing.{knows_event}
use Rattle.rtrace.proofs.told_bounds.ToldBounds.happen.Goals as goal

pub returns-clause-ok : goal.returns-clause-ok
returns-clause-ok c =
    on_ok_weaker c.told.result
    (λ told groups seats cap events items known accepted.
    knows_event groups seats cap c.args.self.now (record { needs = c.told.new.self; kept = c.args.self.now.kept }) events c.args.event.now items known accepted (told groups seats cap events known.needs accepted) refl)
    c.told.ensures.ok
