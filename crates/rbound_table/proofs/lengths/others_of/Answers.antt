use Rattle.std.proofs.Common.{map}
use Rattle.std.specs.List.{range_with_len}
use Rattle.rbound_table.specs.Lengths.{others_at}
use Rattle.rbound_table.proofs.RowFacts.{rows_more}
use Rattle.rbound_table.proofs.lengths.others_of.Goals as goal

pub loop-l-preserved : goal.loop-l-preserved
loop-l-preserved c =
    rows_more (λ r. map (others_at c.args.cells.now c.args.tasks r) (range_with_len 0 c.args.tasks)) c.loop-l.rows.items c.push.new.self.items c.loop-l.l c.in_ok-others_row.field-0 c.loop-l.invariant c.in_ok-push.ensures.items c.in_ok-others_row.ensures
