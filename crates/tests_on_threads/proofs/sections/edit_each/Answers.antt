use Rattle.std.proofs.Common.{◌≡◌, ℕ, List, refl, ap, sym, subst, ◌∙◌}
use Rattle.std.specs.List.{AllByRecursion}
use Rattle.rset.specs.Sets.{Set, rising}
use Rattle.rguard.specs.Guards.{GuardFields, HoldingToWrite}
use Rattle.rguard.specs.Seats.{SeatOf}
use Rattle.rvalue.specs.declared.ledger.Edit.{Edit}
use Rattle.rguard.proofs.Resting.{each_rising}
use Rattle.tests_on_threads.proofs.sections.edit_each.Goals as goal

pub loop-l-init : goal.loop-l-init
loop-l-init g c = (
  subst (λ (s : Set). AllByRecursion (λ place. HoldingToWrite c.args.guard.now.seat place) (rising s)) (sym (c.into_iter-l-iterator.ensures.into_iter_gives ∙ c.iter-l-items.ensures.value))
      (each_rising (λ place. HoldingToWrite c.args.guard.now.seat place) c.args.set c.requires),
  refl,
)

pub loop-l-preserved : goal.loop-l-preserved
loop-l-preserved g c =
    let seat : c.edit.new.self.seat ≡ c.loop-l.guard.seat = ap (λ (g : GuardFields g.row.T.Denot Edit). g.seat) c.in-Ok-true.ensures.act in (
      subst (λ (s : SeatOf g.row.T.Denot Edit). AllByRecursion (λ place. HoldingToWrite s place) (rising c.next.new.self)) (sym seat)
          (subst (λ (xs : List ℕ). AllByRecursion (λ place. HoldingToWrite c.loop-l.guard.seat place) xs) c.in-Some.ensures.steps c.loop-l.invariant.0).1,
      seat ∙ c.loop-l.invariant.1,
    )
