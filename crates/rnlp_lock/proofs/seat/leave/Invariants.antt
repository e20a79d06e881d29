use Rattle.std.proofs.Common.{◌≡◌, ◌++◌, map}
use Rattle.std.specs.Prelude.{All}
use Rattle.rnlp_lock.specs.Laws.{HoldsOf}
use Rattle.rnlp_lock.specs.Seats.{IsPassOf, who, who_of}
use Rattle.rnlp_lock.proofs.seat.leave.Given as goal

abbrev pub invariant-loop-seat : goal.invariant-loop-seat
invariant-loop-seat g l = record {
  each : All (IsPassOf g.T.Law.allows (HoldsOf g.T.Law.holds) l.lock) l.passes.items;
  all : map (who_of l.lock) l.passes.items ++ map who l.seat-iterator.rest.items ≡ map who l.fn.seats.items;
  left : All (λ w. w.lock ≡ l.lock) (map who l.seat-iterator.rest.items);
}
