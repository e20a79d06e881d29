use Rattle.std.proofs.Common.{◌≡◌, ◌+◌, ◌≤◌, ℕ, sym, subst, ◌∙◌, arith}
use Rattle.rset.specs.declared.TheConstants.{RESOURCES}
use Rattle.bench_sections.proofs.Records.{HasFrom, has_none, has_next, has_no_next, rising_from}
use Rattle.bench_sections.proofs.measure.resources_from.Goals as goal
use Rattle.bench_sections.proofs.measure.resources_from.Goals.{then-l-from, else-l-from}

pub loop-k-init : goal.loop-k-init
loop-k-init c = subst (HasFrom c.args.first 0) (sym c.empty-set.ensures) (has_none c.args.first)

pub loop-k-preserved : goal.loop-k-preserved
loop-k-preserved c = elim c.if-l-from.branch [
  | then-l-from w ↦
      let is : c.from.result + c.from-in-loop-k.result ≡ c.args.first + c.loop-k.k = omega arith in
      subst (HasFrom c.args.first (c.loop-k.k + 1)) (sym (w.set-is ∙ w.with-set.ensures)) (has_next c.args.first c.loop-k.k (c.from.result + c.from-in-loop-k.result) c.loop-k.set is c.loop-k.invariant)
  | else-l-from w ↦
      let none : RESOURCES ≤ c.args.first + c.loop-k.k = omega (arith, w.if-l-from.false) in
      subst (HasFrom c.args.first (c.loop-k.k + 1)) (sym w.set-is) (has_no_next c.args.first c.loop-k.k c.loop-k.set none c.loop-k.invariant)
]

pub returns : goal.returns
returns c = let all : c.loop-k.k ≡ c.args.count = omega arith in rising_from c.args.first c.args.count c.loop-k.set (subst (λ (n : ℕ). HasFrom c.args.first n c.loop-k.set) all c.loop-k.invariant)
