use Rattle.std.proofs.Common.{◌==◌, ◌&&◌, ◌||◌, sym, ap, ◌∙◌}
use Rattle.std.specs.FinSet.{contains}
use Rattle.rset.specs.Sets.{Set}
use Rattle.rset.proofs.SetMembers.{contains_insert}
use Rattle.rcover.proofs.SeatFacts.{and_true, eq_turned}
use Rattle.rcover.proofs.seats.with_seat_if.Goals as goal

pub returns-then-seat-lt-SEATS : goal.returns-then-seat-lt-SEATS
returns-then-seat-lt-SEATS c = λ other low.
    let seat = c.args.seat in
    ap (λ (s : Set). contains s other) c.with.ensures ∙ contains_insert c.args.seats seat other
    ∙ ap (λ b. b || contains c.args.seats other) (eq_turned other seat ∙ sym (and_true (seat == other)) ∙ ap (λ b. (seat == other) && b) (sym c.if-comes.true))
