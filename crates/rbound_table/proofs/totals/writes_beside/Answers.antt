use Rattle.std.proofs.Common.{◌≡◌, ◌-◌, is_some, min, ap, ◌∙◌, subst, sym, ◌≤◌, ℕ}
use Rattle.rbound.specs.Bounds.{one_if}
use Rattle.rbound.specs.ZoneRows.{row_at}
use Rattle.rbound_table.proofs.TotalFacts.{as_number, own_fewer, writers_less}
use Rattle.rbound_table.proofs.totals.writes_beside.Goals as goal

pub overflow_sub-others : goal.overflow_sub-others
overflow_sub-others c =
    let own : c.from.result ≡ one_if (is_some (row_at c.args.rows.now.writes.items c.args.task)) = c.from.ensures ∙ as_number c.is_some.result ∙ ap one_if (c.is_some.ensures ∙ ap is_some (c.nth_length.ensures ∙ ap (λ row. row_at row c.args.task) c.deref.ensures.value)) in
    subst (λ (n : ℕ). n ≤ c.args.totals.now.writers) (sym own) (own_fewer c.args.rows.now c.args.tasks c.args.totals.now c.requires.totals c.args.task c.requires.task)

pub returns-clause-value : goal.returns-clause-value
returns-clause-value c =
    let own : c.from.result ≡ one_if (is_some (row_at c.args.rows.now.writes.items c.args.task)) = c.from.ensures ∙ as_number c.is_some.result ∙ ap one_if (c.is_some.ensures ∙ ap is_some (c.nth_length.ensures ∙ ap (λ row. row_at row c.args.task) c.deref.ensures.value)) in
    c.min.ensures ∙ (λ i. min ((ap (λ n. c.args.totals.now.writers - n) own ∙ writers_less c.args.rows.now c.args.tasks c.args.totals.now c.requires.totals c.args.task c.requires.task) i) (c.from-2.ensures i))
