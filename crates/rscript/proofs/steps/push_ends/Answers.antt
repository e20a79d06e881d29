use Rattle.std.proofs.Common.{true, false, Vec, Global, ℕ, sym, ap, ◌∙◌}
use Rattle.std.proofs.lemmas.List.{append-nil}
use Rattle.rscript.proofs.Cuts.{ended_here}
use Rattle.rscript.proofs.steps.push_ends.Goals.{then-ends_section+in_ok-push, else-ends_section}
use Rattle.rscript.proofs.steps.push_ends.Goals as goal

pub loop-i-preserved : goal.loop-i-preserved
loop-i-preserved c =
    let statements = c.args.statements.now in
    let i = c.loop-i.i in
    let s = c.index-statements-i.result in
    let old = c.loop-i.ends.items in
    elim c.if-ends_section.branch [
      | then-ends_section+in_ok-push w ↦
          ended_here statements i s old c.if-ends_section.ends.items true c.loop-i-test.true (sym c.index-statements-i.is) (sym c.ends_section.ensures ∙ w.if-ends_section.true) c.loop-i.invariant
          (ap (λ (v : Vec ℕ Global). v.items) w.ends-is ∙ w.in_ok-push.ensures.items)
      | else-ends_section w ↦
          ended_here statements i s old c.if-ends_section.ends.items false c.loop-i-test.true (sym c.index-statements-i.is) (sym c.ends_section.ensures ∙ w.if-ends_section.false) c.loop-i.invariant
          (ap (λ (v : Vec ℕ Global). v.items) w.ends-is ∙ sym (append-nil old))
    ]
