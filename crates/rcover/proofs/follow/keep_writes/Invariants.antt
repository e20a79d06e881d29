use Rattle.std.proofs.Common.{◌≡◌, ◌==◌, ℕ, true, length}
use Rattle.std.specs.List.{AllByRecursion, list_any}
use Rattle.std.specs.FinSet.{contains}
use Rattle.rset.specs.Sets.{rising}
use Rattle.rclaim.specs.declared.claim.Claim.{Claim}
use Rattle.rcover.specs.Follow.{table_of}
use Rattle.rcover.specs.Kept.{length_by, HasRoom, IsTaken, AreLong, AreOf}
use Rattle.rcover.specs.NotedSeats.{NoneWaits}
use Rattle.rcover.proofs.Tables.{Visited}
use Rattle.rcover.proofs.follow.keep_writes.Given as goal

abbrev pub invariant-loop-seat : goal.invariant-loop-seat
invariant-loop-seat l = record {
  taken : IsTaken l.lengths l.last l.taken;
  within : (seat : ℕ) → list_any (λ k. k == seat) (rising l.seat-iterator) ≡ true → contains l.fn.looked seat ≡ true;
  visited : Visited l.last l.next l.fn.looked (table_of l.initial.runs) (table_of l.runs) (rising l.seat-iterator) l.next;
  others : (seat : ℕ) → NoneWaits l.next seat → table_of l.runs seat ≡ table_of l.initial.runs seat;
  room : AllByRecursion HasRoom l.runs;
  len : length l.runs ≡ length l.initial.runs;
  lengths : (len : Claim → ℕ) → AreOf (length_by l.lengths) len l.last → AreOf (length_by l.lengths) len l.next → AllByRecursion (AreLong len) l.initial.runs → AllByRecursion (AreLong len) l.runs;
}
