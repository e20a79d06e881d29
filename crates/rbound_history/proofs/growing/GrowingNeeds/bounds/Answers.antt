use Rattle.std.proofs.Common.{sym, subst}
use Rattle.rmodel.specs.State.{opening}
use Rattle.rbound_history.specs.ShapeNeeds.{AreBelow}
use Rattle.rbound_history.specs.TaskShapes.{TaskShapes}
use Rattle.rbound_history.proofs.HistoryShapes.{shapes_below}
use Rattle.rbound_history.proofs.growing.GrowingNeeds.bounds.Goals as goal

pub needs-requires : goal.needs-requires
needs-requires c =
    let told = c.requires.told in
    subst (λ (s : TaskShapes). AreBelow c.args.groups.q s.shapes) (sym told.2.shapes) (shapes_below (opening c.args.groups told.0 c.args.cap) told.1 told.3)
