use Rattle.std.proofs.Common.{◌-◌, map, unwrap_or, ap, ◌∙◌}
use Rattle.rbound.specs.Bounds.{largest, tasks_of}
use Rattle.rbound.specs.ZoneRows.{write_length_in}
use Rattle.rbound_table.proofs.TotalFacts.{numbers_are}
use Rattle.rbound_table.proofs.totals.bound_by.Goals as goal

pub returns : goal.returns
returns c =
    numbers_are c.args.rows.now c.args.tasks c.args.totals.now c.requires.totals c.args.task c.requires.task c.args.cap c.writes_beside-writes.result c.reads_beside-reads.result c.written_beside-written.result c.from.result
    c.writes_beside-writes.ensures.value c.reads_beside-reads.ensures.value
    (c.written_beside-written.ensures.sum ∙ ap (λ row. largest (c.args.cap - 1) (map (write_length_in row c.args.task) (tasks_of c.args.tasks))) c.deref.ensures.value)
    (c.from.ensures ∙ c.unwrap_or-read.ensures ∙ ap (λ o. unwrap_or o 0) c.two_at.ensures)
