use Rattle.std.proofs.Common.{◌≡◌, ℕ, Bool, ◌&&◌, [], nat_lt, false, ap, sym, ◌∙◌}
use Rattle.std.specs.List.{list_all}
use Rattle.std.proofs.lemmas.Bool.{le-ltb}
use Rattle.rset.specs.Sets.{rising}
use Rattle.rmon.proofs.Below.{below_by_rising}
use Rattle.rmon.proofs.fitting.is_below.Goals as goal

pub loop-l-init : goal.loop-l-init
loop-l-init c = ap (λ s. list_all (λ m. nat_lt m c.args.q) (rising s)) (c.into_iter-l-iterator.ensures.into_iter_gives ∙ c.iter-l-items.ensures.value)

pub returns-then-l-q : goal.returns-then-l-q
returns-then-l-q c =
    let p : ℕ → Bool = λ m. nat_lt m c.args.q in
    let no : nat_lt c.in-Some.l c.args.q ≡ false = le-ltb c.in-Some.l c.args.q c.if-l-q.true in
    let first : list_all p (rising c.loop-l.l-iterator) ≡ (nat_lt c.in-Some.l c.args.q && list_all p (rising c.next.new.self)) = ap (list_all p) c.in-Some.ensures.steps in
    sym (sym (below_by_rising c.args.q c.args.set c.iter-l-items.ensures.within) ∙ (sym c.loop-l.invariant ∙ (first ∙ ap (λ b. b && list_all p (rising c.next.new.self)) no)))

pub returns : goal.returns
returns c =
    let p : ℕ → Bool = λ m. nat_lt m c.args.q in
    let none : rising c.loop-l.l-iterator ≡ [] = c.in-None.ensures.steps.0 in
    sym (ap (list_all p) none) ∙ (c.loop-l.invariant ∙ below_by_rising c.args.q c.args.set c.iter-l-items.ensures.within)
