use Rattle.std.proofs.Common.{◌≡◌, ℕ, ◌++◌, List, refl, ap, sym, subst, ◌∙◌}
use Rattle.std.specs.List.{AllByRecursion}
use Rattle.rset.specs.Sets.{Set, rising}
use Rattle.rguard.specs.Guards.{GuardFields, HoldingToWrite}
use Rattle.rguard.specs.Seats.{SeatOf}
use Rattle.rvalue.specs.declared.ledger.Ledger.{Ledger}
use Rattle.rvalue.specs.declared.ledger.Edit.{Edit}
use Rattle.rvalue.specs.declared.ledger.Edit.TheVariants.{Add}
use Rattle.rguard.proofs.Resting.{each_rising}
use Rattle.bench_sections.specs.Sections.{one_added}
use Rattle.rguard.proofs.Acts.{one_more, all_made}
use Rattle.bench_sections.proofs.section.add_to_each.Goals as goal

pub loop-l-init : goal.loop-l-init
loop-l-init g c =
    let all = sym (c.into_iter-l-iterator.ensures.into_iter_gives ∙ c.iter-l-items.ensures.value) in (
      subst (λ (s : Set). AllByRecursion (λ place. HoldingToWrite c.args.guard.now.seat place) (rising s)) all (each_rising (λ place. HoldingToWrite c.args.guard.now.seat place) c.args.set c.requires),
      refl,
      ap (λ (s : Set). c.args.guard.now.acts ++ one_added s) (sym all),
    )

pub loop-l-preserved : goal.loop-l-preserved
loop-l-preserved g c =
    let seat : c.edit.new.self.seat ≡ c.loop-l.guard.seat = ap (λ (g : GuardFields Ledger Edit). g.seat) c.in-Ok-true.ensures.act in (
      subst (λ (s : SeatOf Ledger Edit). AllByRecursion (λ place. HoldingToWrite s place) (rising c.next.new.self)) (sym seat)
          (subst (λ (xs : List ℕ). AllByRecursion (λ place. HoldingToWrite c.loop-l.guard.seat place) xs) c.in-Some.ensures.steps c.loop-l.invariant.0).1,
      seat ∙ c.loop-l.invariant.1,
      one_more c.loop-l.guard (rising c.loop-l.l-iterator) (Add 1) (c.args.guard.now.acts ++ one_added c.args.set) c.loop-l.invariant.2 c.edit.new.self c.in-Some.l (rising c.next.new.self) c.in-Ok-true.field-0
          c.in-Some.ensures.steps c.in-Ok-true.field-0-test c.in-Ok-true.ensures.act,
    )

pub returns-clause-acts : goal.returns-clause-acts
returns-clause-acts g c = λ yes. all_made c.loop-l.guard (rising c.loop-l.l-iterator) (Add 1) (c.args.guard.now.acts ++ one_added c.args.set) c.loop-l.invariant.2 c.in-None.ensures.steps.0
