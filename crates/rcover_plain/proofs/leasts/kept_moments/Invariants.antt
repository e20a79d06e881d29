use Rattle.std.proofs.Common.{◌≡◌, take}
use Rattle.rcover_plain.specs.Lists.{moments_in}
use Rattle.rcover_laws.specs.Line.{kept_moments}
use Rattle.rcover_plain.proofs.leasts.kept_moments.Given as goal

abbrev pub invariant-loop-moment : goal.invariant-loop-moment
invariant-loop-moment l = moments_in l.kept.items ≡ kept_moments l.c l.d (moments_in (take l.moment-index l.moments))
