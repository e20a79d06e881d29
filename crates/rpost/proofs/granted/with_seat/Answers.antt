use Rattle.std.proofs.Common.{ap, ◌∙◌}
use Rattle.std.specs.FinSet.{contains}
use Rattle.rset.specs.Sets.{Set}
use Rattle.rset.proofs.SetMembers.{contains_insert}
use Rattle.rpost.proofs.granted.with_seat.Goals as goal

pub returns-then-seat-lt-SEATS : goal.returns-then-seat-lt-SEATS
returns-then-seat-lt-SEATS c = λ other low. ap (λ (s : Set). contains s other) c.with.ensures ∙ contains_insert c.args.seats c.args.seat other
