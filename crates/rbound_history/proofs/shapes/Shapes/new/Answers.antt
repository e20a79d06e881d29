use Rattle.std.proofs.Common.{◌≡◌, ◌≤◌, ◌<◌, ◌∙◌, ℕ, length, ap, arith}
use Rattle.std.proofs.lemmas.List.{length-replicate}
use Rattle.rbound_history.proofs.TableFacts.{empty_table}
use Rattle.rbound_history.proofs.shapes.Shapes.new.Goals as goal

few : (n tasks : ℕ) → n ≡ tasks → tasks < 256 → n ≤ 255
few n tasks e h = omega arith

pub invariant_of-result : goal.invariant_of-result
invariant_of-result c =
    let zeros = c.in_ok-counts.ensures.items_if_clones_equal (λ y same. same) in
    empty_table _ c.from.result c.in_ok-new.ensures c.new-2.ensures.items c.new-3.ensures.items zeros
    (few _ c.args.tasks (ap length zeros ∙ length-replicate c.from.result _ ∙ c.from.ensures) (omega arith))
