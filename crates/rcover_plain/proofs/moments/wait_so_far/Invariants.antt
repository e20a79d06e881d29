use Rattle.std.proofs.Common.{◌≡◌, take}
use Rattle.rcover_laws.specs.Ended.{waits_in}
use Rattle.rcover_plain.specs.Lists.{moments_in}
use Rattle.rcover_laws.specs.Told.{wait_so_far}
use Rattle.rcover_plain.proofs.moments.wait_so_far.Given as goal

abbrev pub invariant-loop-moment : goal.invariant-loop-moment
invariant-loop-moment l = moments_in l.run.items ≡ wait_so_far (waits_in l.which) l.c (moments_in (take l.moment-index l.moments))
