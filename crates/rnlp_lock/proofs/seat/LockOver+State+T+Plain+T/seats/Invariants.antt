use Rattle.std.proofs.Common.{◌≡◌, ◌++◌, map}
use Rattle.std.specs.Prelude.{All}
use Rattle.rnlp_lock.specs.Laws.{HoldsOf}
use Rattle.rnlp_lock.specs.Seats.{IsPassOf, who, who_of}
use Rattle.rnlp_lock.proofs.seat.LockOver+State+T+Plain+T.seats.Given as goal

abbrev pub invariant-loop-pass : goal.invariant-loop-pass
invariant-loop-pass g l = record {
  made : map who l.seats.items ++ map (who_of l.self) l.pass-iterator.rest.items ≡ map (who_of l.self) l.fn.passes.items;
  left : All (IsPassOf g.T.Law.allows (HoldsOf g.T.Law.holds) l.self) l.pass-iterator.rest.items;
}
