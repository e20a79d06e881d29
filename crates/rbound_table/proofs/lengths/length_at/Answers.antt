use Rattle.std.proofs.Common.{[], get_or, ap, ◌∙◌}
use Rattle.rbound.specs.ZoneRows.{row_at}
use Rattle.rbound_table.specs.Lengths.{rows_in}
use Rattle.rbound_table.proofs.RowFacts.{row_there, no_row}
use Rattle.rbound_table.proofs.lengths.length_at.Goals as goal

pub returns-then-at-rows : goal.returns-then-at-rows
returns-then-at-rows c =
    c.nth_length.ensures
    ∙ ap (λ row. row_at row c.args.me) (c.deref.ensures.value ∙ row_there c.args.rows.now c.from-at.result c.index-rows-at.result c.if-at-rows.true c.index-rows-at.is ∙ ap (λ k. get_or (rows_in c.args.rows.now) k []) c.from-at.ensures)

pub returns-else-at-rows : goal.returns-else-at-rows
returns-else-at-rows c = ap (λ row. row_at row c.args.me) (no_row c.args.rows.now c.from-at.result c.if-at-rows.false ∙ ap (λ k. get_or (rows_in c.args.rows.now) k []) c.from-at.ensures)
