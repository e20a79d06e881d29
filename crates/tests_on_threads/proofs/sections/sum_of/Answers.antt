use Rattle.std.proofs.Common.{sym, subst, ◌∙◌}
use Rattle.std.specs.List.{AllByRecursion}
use Rattle.rset.specs.Sets.{Set, rising}
use Rattle.rguard.specs.Guards.{Holding}
use Rattle.rguard.proofs.Resting.{each_rising}
use Rattle.tests_on_threads.proofs.sections.sum_of.Goals as goal

pub loop-l-init : goal.loop-l-init
loop-l-init g c =
    subst (λ (s : Set). AllByRecursion (λ place. Holding c.args.guard.now.seat place) (rising s)) (sym (c.into_iter-l-iterator.ensures.into_iter_gives ∙ c.iter-l-items.ensures.value))
    (each_rising (λ place. Holding c.args.guard.now.seat place) c.args.set c.requires)
