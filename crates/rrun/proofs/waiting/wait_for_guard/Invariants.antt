use Rattle.std.proofs.Common.{◌≡◌, []}
use Rattle.rguard.specs.Seats.{Goes}
use Rattle.rrun.proofs.waiting.wait_for_guard.Given as goal

abbrev pub invariant-loop : goal.invariant-loop
invariant-loop g l = (l.waiting ≡ record l.fn.pending { seat = l.waiting.seat }) × Goes l.fn.pending.seat [] l.waiting.seat
