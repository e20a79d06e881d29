use Rattle.std.proofs.Common.{◌≡◌, ℕ, ◌<◌}
use Rattle.std.specs.Prelude.{slice_index_or}
use Rattle.rguard.specs.Seats.{SeatOf}
use Rattle.tests_on_threads.proofs.closing.are_in_order.Given as goal

abbrev pub invariant-loop-k : goal.invariant-loop-k
invariant-loop-k g l = (k : ℕ) (d : SeatOf g.row.T.Denot g.row.T-Edit.Denot) → k < l.k → (slice_index_or l.seats k d).number ≡ k
