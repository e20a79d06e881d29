use Rattle.std.proofs.Common.{◌≡◌, ◌==◌, ◌||◌, refl, sym, ap, ◌∙◌}
use Rattle.std.proofs.lemmas.Bool.{eq-eqb, eqb-true, or_left, or_right}
use Rattle.std.specs.List.{list_any}
use Rattle.std.specs.FinSet.{contains}
use Rattle.rset.specs.Sets.{meets, rising}
use Rattle.rset.proofs.SetsMeet.{meets_empty_right}
use Rattle.rset.proofs.SetsRising.{rising_has}
use Rattle.rmodel.proofs.ListFacts.{contrary}
use Rattle.rmodel.proofs.settling.OneSettlement.{both_cases}
use Rattle.rcover.specs.Lines.{set_at}
use Rattle.rcover.proofs.waiting_reads.some_wanted.Goals as goal

pub returns-then-is_empty-clause-none : goal.returns-then-is_empty-clause-none
returns-then-is_empty-clause-none c = λ _ seat on. ap (λ s. meets (set_at c.args.wanted.now seat) s) (c.is_empty.ensures.0 c.if-is_empty.true) ∙ meets_empty_right (set_at c.args.wanted.now seat)

pub loop-seat-init : goal.loop-seat-init
loop-seat-init c =
    let seats = c.args.seats in
    let whole : c.into_iter-seat-iterator.result ≡ seats = c.into_iter-seat-iterator.ensures.into_iter_gives ∙ c.iter-seat-items.ensures.value in
    record {
      none = λ seat on off. contrary (contains seats seat) on (sym (rising_has seats c.iter-seat-items.ensures.within seat) ∙ ap (λ s. list_any (λ k. k == seat) (rising s)) (sym whole) ∙ off);
      within = λ seat on. sym (rising_has seats c.iter-seat-items.ensures.within seat) ∙ ap (λ s. list_any (λ k. k == seat) (rising s)) (sym whole) ∙ on;
    }

pub loop-seat-preserved : goal.loop-seat-preserved
loop-seat-preserved c =
    let s = c.in-Some.seat in
    let left = rising c.next.new.self in
    record {
      none = λ seat on off.
          both_cases (s == seat)
          (λ same. ap (λ k. meets (set_at c.args.wanted.now k) c.args.written) (sym (eqb-true s seat same)) ∙ ap (λ t. meets t c.args.written) (sym c.set_of.ensures) ∙ sym c.meets.ensures ∙ c.if-meets.false)
          (λ other.
          c.loop-seat.invariant.none seat on
          (ap (λ ls. list_any (λ k. k == seat) ls) c.in-Some.ensures.steps ∙ (λ i. other i || off i)));
      within = λ seat on. c.loop-seat.invariant.within seat (ap (λ ls. list_any (λ k. k == seat) ls) c.in-Some.ensures.steps ∙ or_right (s == seat) (list_any (λ k. k == seat) left) on);
    }

pub returns-then-meets-clause-some : goal.returns-then-meets-clause-some
returns-then-meets-clause-some c = λ _.
    let s = c.in-Some.seat in
    let left = rising c.next.new.self in (
      s,
      c.loop-seat.invariant.within s (ap (λ ls. list_any (λ k. k == s) ls) c.in-Some.ensures.steps ∙ or_left (s == s) (list_any (λ k. k == s) left) (eq-eqb s s refl)),
      ap (λ t. meets t c.args.written) (sym c.set_of.ensures) ∙ sym c.meets.ensures ∙ c.if-meets.true,
    )

pub returns-clause-none : goal.returns-clause-none
returns-clause-none c = λ _ seat on. c.loop-seat.invariant.none seat on (ap (λ ls. list_any (λ k. k == seat) ls) c.in-None.ensures.steps.0)
