use Rattle.std.proofs.Common.{arith}
use Rattle.rbound.proofs.PlaceBehind.{place_is}
use Rattle.rbound.proofs.made.place_behind.Goals as goal

pub returns-after-loop-at-clause-place : goal.returns-after-loop-at-clause-place
returns-after-loop-at-clause-place c =
    place_is c.args.claims.now c.args.task c.loop-at.at c.loop-at.invariant.0 c.loop-at.invariant.1 (λ d some. absurd (omega arith))
