use Rattle.std.proofs.Common.{◌≡◌, map, ap, ◌∙◌, arith}
use Rattle.std.specs.List.{range_with_len}
use Rattle.rset.specs.declared.TheConstants.{RESOURCES}
use Rattle.rbound_table.specs.Delays.{all_leaders, readers_of, delayed_by, delayed}
use Rattle.rbound_table.proofs.RowFacts.{rows_more}
use Rattle.rbound_table.proofs.delays.delayers_of.Goals as goal

pub loop-writer-preserved : goal.loop-writer-preserved
loop-writer-preserved c =
    let tables = c.args.tables.now in
    let writer = c.loop-writer.writer in
    let leaders = c.deref-in-loop-writer.ensures.value ∙ c.in_ok-leaders.ensures ∙ ap (λ cells. all_leaders cells c.args.tasks) c.deref.ensures.value in
    let readers = c.deref-in-loop-writer-2.ensures.value ∙ c.in_ok-readers.ensures ∙ ap (λ ls. readers_of ls writer) leaders in
    rows_more (λ w. map (delayed tables c.args.tasks w) (range_with_len 0 RESOURCES)) c.loop-writer.rows.items c.push.new.self.items writer c.in_ok-delayed_row.field-0 c.loop-writer.invariant c.in_ok-push.ensures.items
    (c.in_ok-delayed_row.ensures ∙ ap (λ rs. map (delayed_by tables rs writer) (range_with_len 0 RESOURCES)) readers)

pub returns : goal.returns
returns c =
    let done : c.loop-writer.writer ≡ c.args.tasks = omega (arith, c.loop-writer.auto.writer-end, c.loop-writer-test.false) in
    c.loop-writer.invariant ∙ ap (λ k. map (λ w. map (delayed c.args.tables.now c.args.tasks w) (range_with_len 0 RESOURCES)) (range_with_len 0 k)) done
