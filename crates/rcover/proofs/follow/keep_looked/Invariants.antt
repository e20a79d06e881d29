use Rattle.std.proofs.Common.{◌≡◌, ℕ, true, length, take, drop}
use Rattle.std.specs.List.{AllByRecursion}
use Rattle.rclaim.specs.declared.claim.Claim.{Claim}
use Rattle.rcover.specs.Follow.{table_of}
use Rattle.rcover.specs.Kept.{length_by, HasRoom, IsTaken, AreLong, AreOf, may_wait, kept_of}
use Rattle.rcover.specs.NotedSeats.{NoneWaits}
use Rattle.rcover.proofs.follow.keep_looked.Given as goal

abbrev pub invariant-loop-x : goal.invariant-loop-x
invariant-loop-x l = record {
  taken : IsTaken l.lengths l.last l.taken;
  done : AllByRecursion (λ x. may_wait l.next x ≡ true → table_of l.runs x.claim.seat ≡ kept_of l.last l.next (table_of l.initial.runs x.claim.seat) x) (take l.x-index l.next);
  rest : AllByRecursion (λ x. may_wait l.next x ≡ true → table_of l.runs x.claim.seat ≡ table_of l.initial.runs x.claim.seat) (drop l.x-index l.next);
  others : (seat : ℕ) → NoneWaits l.next seat → table_of l.runs seat ≡ table_of l.initial.runs seat;
  room : AllByRecursion HasRoom l.runs;
  len : length l.runs ≡ length l.initial.runs;
  lengths : (len : Claim → ℕ) → AreOf (length_by l.lengths) len l.last → AreOf (length_by l.lengths) len l.next → AllByRecursion (AreLong len) l.initial.runs → AllByRecursion (AreLong len) l.runs;
}
