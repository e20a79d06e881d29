use Rattle.std.proofs.Common.{Some, sym, ap, ◌∙◌}
use Rattle.std.specs.declared.vec.Vec.{Vec}
use Rattle.std.specs.declared.alloc.Global.{Global}
use Rattle.rbound.specs.declared.bound.Bound.{Bound}
use Rattle.rbound_table.proofs.AnswerFacts.{zone_bounds}
use Rattle.rbound_table.proofs.answers.place_bounds.Goals as goal

pub returns-in_ok-rows-in-Some : goal.returns-in_ok-rows-in-Some
returns-in_ok-rows-in-Some c =
    zone_bounds c.write_bounds.result (λ (bounds : Vec Bound Global). bounds.items) c.args.tables.now c.args.tasks c.args.cap c.args.l c.args.zone c.in_ok-rows-in-Some.rows (sym c.in-Some.ensures.value ∙ ap Some c.if-first-l.true) c.rows_of.ensures.below c.in_ok-rows-in-Some.ensures.rows c.write_bounds.ensures
