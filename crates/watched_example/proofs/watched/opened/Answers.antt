use Rattle.std.proofs.Common.{refl, ap, ◌∙◌}
use Rattle.rmodel.specs.State.{LockState}
use Rattle.watched_example.proofs.Beginning.{is_new}
use Rattle.watched_example.proofs.watched.opened.Goals as goal

pub returns-clause-new : goal.returns-clause-new
returns-clause-new g c =
    is_new c.in_ok-lock.lock c.in_ok-lock.seats.items _ _ _ c.in_ok-lock.ensures.count.1 c.in_ok-lock.ensures.seats c.in_ok-lock.ensures.each
    (ap (λ (s : LockState). s.groups) c.in_ok-machine.ensures.opening ∙ c.in_ok-groups.ensures) refl
