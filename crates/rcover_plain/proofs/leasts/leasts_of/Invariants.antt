use Rattle.std.proofs.Common.{◌≡◌, take}
use Rattle.rcover_plain.specs.Lists.{moments_in}
use Rattle.rcover_laws.specs.Line.{leasts}
use Rattle.rcover_plain.proofs.leasts.leasts_of.Given as goal

abbrev pub invariant-loop-moment : goal.invariant-loop-moment
invariant-loop-moment l = l.leasts.items ≡ leasts l.c (moments_in (take l.moment-index l.moments))
