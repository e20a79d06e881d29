use Rattle.std.proofs.Common.{◌≡◌}
use Rattle.rnlp_lock.specs.Seats.{who}
use Rattle.four_accounts.proofs.work.Given as goal

abbrev pub invariant-loop-turn : goal.invariant-loop-turn
invariant-loop-turn g l = who l.seat ≡ who l.fn.seat
