use Rattle.std.proofs.Common.{◌≡◌}
use Rattle.rnlp_lock.specs.Seats.{who}
use Rattle.two_accounts.proofs.work.Given as goal

abbrev pub invariant-loop : goal.invariant-loop
invariant-loop g l = who l.seat ≡ who l.fn.seat
