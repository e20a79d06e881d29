use Rattle.std.proofs.Common.{sym, subst}
use Rattle.rguard.specs.Seats.{SeatOf}
use Rattle.rvalue.specs.declared.ledger.Ledger.{Ledger}
use Rattle.rvalue.specs.declared.ledger.Edit.{Edit}
use Rattle.rset.specs.Sets.{Set}
use Rattle.rguard.specs.Resting.{MayWriteAll}
use Rattle.rguard.proofs.Resting.{write_left, write_right}
use Rattle.tests_on_threads.proofs.sections.move_in.Goals as goal

pub edit_each-taken-requires-after_bounds : goal.edit_each-taken-requires-after_bounds
edit_each-taken-requires-after_bounds g c κs within =
    write_left c.args.from c.args.to c.in-Ok.guard.seat (subst (λ (s : Set). MayWriteAll s c.in-Ok.guard.seat) c.union.ensures c.in-Ok.ensures.writes)

pub edit_each-added-requires-after_bounds : goal.edit_each-added-requires-after_bounds
edit_each-added-requires-after_bounds g c κs within =
    subst (λ (seat : SeatOf Ledger Edit). MayWriteAll c.args.to seat) (sym c.edit_each-taken.ensures)
    (write_right c.args.from c.args.to c.in-Ok.guard.seat (subst (λ (s : Set). MayWriteAll s c.in-Ok.guard.seat) c.union.ensures c.in-Ok.ensures.writes))
