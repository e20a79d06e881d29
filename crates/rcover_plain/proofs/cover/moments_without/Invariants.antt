use Rattle.std.proofs.Common.{◌≡◌, take}
use Rattle.rcover_plain.specs.Lists.{moments_in}
use Rattle.rcover_laws.specs.Sections.{moments_without}
use Rattle.rcover_plain.proofs.cover.moments_without.Given as goal

abbrev pub invariant-loop-moment : goal.invariant-loop-moment
invariant-loop-moment l = moments_in l.left.items ≡ moments_without l.v (moments_in (take l.moment-index l.moments))
