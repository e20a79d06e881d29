use Rattle.std.proofs.Common.{◌≡◌, ◌<◌, ◌==◌, Bool, true, false, ◌||◌, cond, length, refl, sym, ap, subst, ◌∙◌}
use Rattle.std.proofs.Math.ListN.{set}
use Rattle.std.proofs.lemmas.Bool.{eq-eqb, eqb-true}
use Rattle.std.specs.FinSet.{contains}
use Rattle.rset.specs.Sets.{Set}
use Rattle.rset.proofs.SetMembers.{contains_insert}
use Rattle.rmodel.proofs.settling.OneSettlement.{both_cases}
use Rattle.rcover.specs.Lines.{set_at}
use Rattle.rcover.proofs.heads_told.Heads.{set_at_read, set_at_set}
use Rattle.rcover.proofs.lines.note_behind.Goals as goal

or_true : (b : Bool) → (b || true) ≡ true
or_true true = refl
or_true false = refl

pub returns-then-from-behind-clause-own : goal.returns-then-from-behind-clause-own
returns-then-from-behind-clause-own c = λ low.
    let ss = c.args.behind.now in
    let k = c.from-then-from-behind-2.result in
    let v = c.with.result in
    let here = c.from-then-from-behind-2.ensures in
    ap (λ (s : Set). contains s c.args.seat)
    (set_at_set ss k v c.args.least (subst (λ i. i < length ss) (sym here) low) ∙ ap (λ b. cond b v (set_at ss c.args.least)) (eq-eqb c.args.least k (sym here)) ∙ c.with.ensures)
    ∙ contains_insert c.index-behind-from.result c.args.seat c.args.seat ∙ ap (λ b. b || contains c.index-behind-from.result c.args.seat) (eq-eqb c.args.seat c.args.seat refl)

pub returns-then-from-behind-clause-more : goal.returns-then-from-behind-clause-more
returns-then-from-behind-clause-more c = λ k s h.
    let ss = c.args.behind.now in
    let r = c.from-then-from-behind-2.result in
    let v = c.with.result in
    let old = c.index-behind-from.result in
    let low : c.args.least < length ss = subst (λ i. i < length ss) c.from.ensures c.if-from-behind.true in
    let put : set_at (set ss r v) k ≡ cond (k == r) v (set_at ss k) = set_at_set ss r v k (subst (λ i. i < length ss) (sym c.from-then-from-behind-2.ensures) low) in
    both_cases (k == r)
    (λ on.
    let was : set_at ss k ≡ old
    = ap (set_at ss) (eqb-true k r on ∙ c.from-then-from-behind-2.ensures ∙ sym c.from-then-from-behind.ensures)
    ∙ set_at_read ss c.from-then-from-behind.result old (subst (λ i. i < length ss) (sym c.from-then-from-behind.ensures) low) c.index-behind-from.is in
    ap (λ (t : Set). contains t s) (put ∙ ap (λ b. cond b v (set_at ss k)) on ∙ c.with.ensures)
    ∙ contains_insert old c.args.seat s ∙ ap (λ b. (s == c.args.seat) || b) (ap (λ (t : Set). contains t s) (sym was) ∙ h) ∙ or_true (s == c.args.seat))
    (λ off. ap (λ (t : Set). contains t s) (put ∙ ap (λ b. cond b v (set_at ss k)) off) ∙ h)
