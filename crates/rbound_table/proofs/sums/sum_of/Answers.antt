use Rattle.std.proofs.Common.{◌≡◌, ◌<◌, ◌+◌, ◌^◌, ℕ, subst, sym, ◌∙◌, arith}
use Rattle.std.proofs.lemmas.List.FromFn.{sum_by-map-range_with_len_more}
use Rattle.rbound_table.specs.Sums.{length_in}
use Rattle.rbound_table.proofs.sums.sum_of.Goals as goal

pub loop-task-preserved : goal.loop-task-preserved
loop-task-preserved c =
    let one : c.from-all.result ≡ length_in c.args.row.now c.loop-task.task = c.from-all.ensures ∙ c.length_in.ensures in
    let small : c.from-all.result < 2 ^ 32 = subst (λ (n : ℕ). n < 2 ^ 32) (sym c.from-all.ensures) c.length_in.type_inv in
    ((λ i. c.loop-task.invariant.0 i + one i) ∙ sym (sum_by-map-range_with_len_more (λ x. x) (length_in c.args.row.now) 0 c.loop-task.task c.loop-task.task (omega arith)), omega (arith, c.loop-task.invariant.1, small))
