use Rattle.std.proofs.Common.{◌≡◌, ◌++◌}
use Rattle.std.specs.List.{AllByRecursion}
use Rattle.rset.specs.Sets.{rising}
use Rattle.rvalue.specs.declared.ledger.Edit.TheVariants.{Add}
use Rattle.rguard.specs.Guards.{HoldingToWrite}
use Rattle.bench_sections.specs.Sections.{one_added}
use Rattle.rguard.proofs.Acts.{each_taken}
use Rattle.bench_sections.proofs.section.add_to_each.Given as goal

abbrev pub invariant-loop-l : goal.invariant-loop-l
invariant-loop-l g l =
    AllByRecursion (λ place. HoldingToWrite l.guard.seat place) (rising l.l-iterator)
    × (l.guard.seat ≡ l.initial.guard.seat)
    × (l.guard.acts ++ each_taken (rising l.l-iterator) (Add 1) ≡ l.initial.guard.acts ++ one_added l.fn.set)
