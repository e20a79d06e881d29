use Rattle.std.proofs.Common.{◌≡◌, map, ap, ◌∙◌, arith}
use Rattle.std.specs.List.{range_with_len}
use Rattle.rset.specs.declared.TheConstants.{RESOURCES}
use Rattle.rbound_table.specs.Lengths.{rows_in}
use Rattle.rbound_table.specs.Delays.{delayers_in, delay_at}
use Rattle.rbound_table.proofs.RowFacts.{rows_more}
use Rattle.rbound_table.proofs.delays.delays_of.Goals as goal

pub loop-l-preserved : goal.loop-l-preserved
loop-l-preserved c =
    let tables = c.args.tables.now in
    let tasks = c.args.tasks in
    let delayers = ap rows_in c.deref.ensures.value ∙ c.in_ok-delayers.ensures in
    rows_more (λ r. map (delay_at (delayers_in tables tasks) tasks r) (range_with_len 0 tasks)) c.loop-l.rows.items c.push.new.self.items c.loop-l.l c.in_ok-delay_row.field-0 c.loop-l.invariant c.in_ok-push.ensures.items
    (c.in_ok-delay_row.ensures ∙ ap (λ rs. map (delay_at rs tasks c.loop-l.l) (range_with_len 0 tasks)) delayers)

pub returns : goal.returns
returns c =
    let done : c.loop-l.l ≡ RESOURCES = omega (arith, c.loop-l.auto.l-end, c.loop-l-test.false) in
    c.loop-l.invariant ∙ ap (λ k. map (λ r. map (delay_at (delayers_in c.args.tables.now c.args.tasks) c.args.tasks r) (range_with_len 0 c.args.tasks)) (range_with_len 0 k)) done
