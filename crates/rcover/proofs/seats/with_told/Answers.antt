use Rattle.std.proofs.Common.{◌==◌, ◌&&◌, ◌||◌, ap, ◌∙◌}
use Rattle.std.specs.FinSet.{contains}
use Rattle.rcover.proofs.seats.with_told.Goals as goal

pub returns : goal.returns
returns c = λ other low. c.with_seat_if.ensures other low ∙ ap (λ b. ((c.args.s.now.seat == other) && b) || contains c.args.seats other) c.is_write_told.ensures
