use Rattle.std.proofs.Common.{◌≡◌, ◌==◌, ℕ, true, false}
use Rattle.std.specs.List.{list_any}
use Rattle.std.specs.FinSet.{contains}
use Rattle.rset.specs.Sets.{meets, rising}
use Rattle.rcover.specs.Lines.{set_at}
use Rattle.rcover.proofs.waiting_reads.some_wanted.Given as goal

abbrev pub invariant-loop-seat : goal.invariant-loop-seat
invariant-loop-seat l = record {
  none : (seat : ℕ) → contains l.fn.seats seat ≡ true → list_any (λ k. k == seat) (rising l.seat-iterator) ≡ false → meets (set_at l.wanted seat) l.written ≡ false;
  within : (seat : ℕ) → list_any (λ k. k == seat) (rising l.seat-iterator) ≡ true → contains l.fn.seats seat ≡ true;
}
