use Rattle.std.proofs.Common.{ap, ◌∙◌}
use Rattle.rmodel.specs.State.{LockState}
use Rattle.rguard.specs.Resting.{all_with}
use Rattle.rguard.proofs.Resting.{rest_new}
use Rattle.tests_on_threads.proofs.sections.opened_over.Goals as goal

pub returns-clause-seats : goal.returns-clause-seats
returns-clause-seats g c =
    rest_new (all_with c.args.group) c.in_ok-lock.lock c.in_ok-lock.seats.items c.args.seats _ _ c.in_ok-lock.ensures.count.1 c.in_ok-lock.ensures.seats c.in_ok-lock.ensures.each
    (ap (λ (s : LockState). s.groups) c.in_ok-machine.ensures.opening ∙ c.in_ok-groups.ensures)
